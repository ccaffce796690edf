use Rattle.nl_segments.specs.Reader.{value_of}
use Rattle.bridge_tool.proofs.Verdicts.{proof_done, proof_says, proof_so}
use Rattle.command_parts.proofs.ExportStages.{folded_at}
use Rattle.bridge_tool.proofs.prove.to_verdict.Goals as goal

pub verdict_of-requires : goal.verdict_of-requires
verdict_of-requires g c =
    let folds = folded_at _ _ _ _ c.claimed_objective-objective.ensures c.in_ok-linear.ensures.folds in
    proof_so (value_of c.args.read) c.args.proof.now c.requires.proof c.in_ok-linear.linear folds

pub returns-clause-comes : goal.returns-clause-comes
returns-clause-comes g c =
    let folds = folded_at _ _ _ _ c.claimed_objective-objective.ensures c.in_ok-linear.ensures.folds in
    proof_done (value_of c.args.read) c.args.proof.now c.requires.proof c.in_ok-linear.linear c.in_ok-verdict.verdict _
    _ folds c.in_ok-verdict.ensures.exact c.in_ok-told.ensures.holds c.in_ok-told.ensures.line

pub returns-clause-says : goal.returns-clause-says
returns-clause-says g c =
    let folds = folded_at _ _ _ _ c.claimed_objective-objective.ensures c.in_ok-linear.ensures.folds in
    proof_says (value_of c.args.read) c.args.proof.now c.requires.proof c.in_ok-linear.linear c.in_ok-verdict.verdict _
    _ c.in_ok-linear.ensures.file folds c.in_ok-verdict.ensures.exact c.in_ok-verdict.ensures.proved
    c.in_ok-told.ensures.holds c.in_ok-told.ensures.line
