use Rattle.std.proofs.Common.{◌∙◌, ap}
use Rattle.certificates.specs.Certificates.{claim_objective}
use Rattle.nl_segments.specs.Reader.{value_of}
use Rattle.bridge_tool.proofs.Programs.{claim_done, folded_so}
use Rattle.command_parts.proofs.ExportStages.{folded_at}
use Rattle.bridge_tool.proofs.verify.to_verdict.Goals as goal

pub verdict_on-requires : goal.verdict_on-requires
verdict_on-requires g c =
    let folds = folded_at _ _ _ _ (c.claim_objective-objective.ensures ∙ ap claim_objective c.claim.ensures) c.in_ok-linear.ensures.folds in
    folded_so (value_of c.args.read) c.args.certificate.now c.requires.certificate c.in_ok-linear.linear folds

pub returns-clause-comes : goal.returns-clause-comes
returns-clause-comes g c =
    let folds = folded_at _ _ _ _ (c.claim_objective-objective.ensures ∙ ap claim_objective c.claim.ensures) c.in_ok-linear.ensures.folds in
    claim_done (value_of c.args.read) c.args.certificate.now c.requires.certificate c.in_ok-linear.linear folds _ _ c.in_ok-told.ensures
