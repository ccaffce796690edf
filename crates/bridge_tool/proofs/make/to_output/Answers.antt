use Rattle.std.proofs.Common.{◌∙◌, List, ℕ, subst}
use Rattle.nl_segments.specs.Reader.{IsNl, value_of}
use Rattle.bridge_tool.proofs.Making.{steps_of_instance}
use Rattle.bridge_tool.proofs.make.to_output.Goals as goal

pub returns-in-Ok-clause-counts : goal.returns-in-Ok-clause-counts
returns-in-Ok-clause-counts g c =
    let read = subst (λ (t : List ℕ). IsNl t (value_of c.in-Ok.read)) (c.deref.ensures.value ∙ c.in_ok-text.ensures) c.in-Ok.ensures.reads in
    steps_of_instance c.args.seed c.args.size (value_of c.in-Ok.read) _ _ c.requires read c.judge_read.ensures.counts
