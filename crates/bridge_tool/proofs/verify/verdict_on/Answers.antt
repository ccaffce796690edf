use Rattle.std.proofs.Common.{◌∙◌, None, sym, ap, ap₂, subst}
use Rattle.linear_program.specs.Programs.{linear_value}
use Rattle.certificate_judge.specs.Outcomes.{outcome_of}
use Rattle.command_parts.specs.CertificateTold.{HasFittingBound, outcome_line}
use Rattle.command_core.specs.Outcome.{Done}
use Rattle.bridge_tool.specs.Verify.{by_linear}
use Rattle.bridge_tool.proofs.Programs.{bound_fits}
use Rattle.bridge_tool.proofs.verify.verdict_on.Goals as goal

pub outcome_line-requires : goal.outcome_line-requires
outcome_line-requires c = subst HasFittingBound (sym c.claim.ensures) (bound_fits (linear_value c.args.linear) c.args.certificate.now c.requires)

pub returns : goal.returns
returns c =
    ap₂ Done c.is_held.ensures (c.in_ok-line.ensures ∙ ap (λ claim. outcome_line claim (outcome_of c.in_ok-outcome.outcome)) c.claim.ensures)
    ∙ ap (λ o. by_linear c.args.certificate.now o None) c.in_ok-outcome.ensures
