use Rattle.std.proofs.Common.{◌≡◌, subst}
use Rattle.linear_program.specs.Linear.{Linear}
use Rattle.linear_program.specs.Programs.{linear_value}
use Rattle.certificates.specs.Certificates.{IsCertificateOf, claim_outcome}
use Rattle.certificate_judge.specs.Outcomes.{outcome_of}
use Rattle.bridge_tool.proofs.Programs.{shown_so}
use Rattle.bridge_tool.proofs.verify.outcome_on.Goals as goal

pub returns : goal.returns
returns c =
    let exact = subst (λ (f : Linear). (h : IsCertificateOf f c.args.certificate.now)
    → outcome_of c.in_ok-outcome.outcome ≡ claim_outcome f c.args.certificate.now.claim h.given)
    c.in_ok-program.ensures c.in_ok-outcome.ensures.exact in
    shown_so (linear_value c.args.linear) c.args.certificate.now c.requires (outcome_of c.in_ok-outcome.outcome) exact
