use Rattle.std.proofs.Common.{◌≡◌, ◌∙◌, ap, codes, rules}
use Rattle.linear_program.specs.Programs.{linear_value}
use Rattle.certificates.specs.Certificates.{claim_objective}
use Rattle.command_core.specs.Outcome.{Refused}
use Rattle.command_core.specs.Told.{refusal}
use Rattle.bridge_tool.specs.Verify.{claim_shown}
use Rattle.bridge_tool.proofs.Programs.{first_objective, no_such}
use Rattle.bridge_tool.proofs.verify_mps.to_verdict.Goals as goal

pub returns-then-objective-gt0 : goal.returns-then-objective-gt0
returns-then-objective-gt0 c =
    let told : c.refusal-refused.result.line ≡ refusal 1 (codes "objective") c.claim_objective-objective.result (codes "no such objective") = search rules in
    ap Refused told ∙ no_such c.args.certificate.now (claim_shown (linear_value c.args.linear) c.args.certificate.now) _
    (c.claim_objective-objective.ensures ∙ ap claim_objective c.claim.ensures) c.if-objective-gt0.true

pub returns : goal.returns
returns c = first_objective c.args.certificate.now (claim_shown (linear_value c.args.linear) c.args.certificate.now) _
    (c.claim_objective-objective.ensures ∙ ap claim_objective c.claim.ensures) c.if-objective-gt0.false _ _
    c.in_ok-told.ensures
