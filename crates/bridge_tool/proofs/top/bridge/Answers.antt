use Rattle.bridge_tool.proofs.Headline.{at_command, answered}
use Rattle.bridge_tool.proofs.Making.{leaves_told}
use Rattle.bridge_tool.proofs.top.bridge.Goals as goal

pub returns-clause-headline : goal.returns-clause-headline
returns-clause-headline g c = λ texts command told asked memory no_input no_output.
    at_command _ _ texts command _ _ _ told asked
    (answered _ _ _ _ _ _ c.work-answer.ensures.worked c.tell.ensures.status c.tell.ensures.line c.tell.ensures.silent c.tell.ensures.rest)
    memory no_input no_output

pub returns-clause-refusal : goal.returns-clause-refusal
returns-clause-refusal g c =
    let told = answered _ _ _ _ _ _ c.work-answer.ensures.worked c.tell.ensures.status c.tell.ensures.line c.tell.ensures.silent c.tell.ensures.rest in
    λ two. told.refusal two

pub returns-clause-leaves : goal.returns-clause-leaves
returns-clause-leaves g c = leaves_told _ _ _ _ _ _ c.work-answer.ensures.leaves c.tell.ensures.status c.tell.ensures.rest
