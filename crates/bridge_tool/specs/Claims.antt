-- What the verdict on a certificate means of the problem that it is about.
use Rattle.std.specs.Prelude.{◌≡◌, ℕ, false, List}
use Rattle.linear_program.specs.Linear.{Linear}
use Rattle.certificates.specs.Certificate.{Cause, fails}
use Rattle.certificates.specs.Problem.{Problem}
use Rattle.certificates.specs.ProblemSays.{Denies}
use Rattle.certificates.specs.ToldMeaning.{Told, IsTrueOf}
use Rattle.linear_program.specs.Numbers.{spread}
use Rattle.certificates.specs.Certificates.{CertificateValue, Given, certificate_over}
use Rattle.certificates.specs.Reading.{given_in}
use Rattle.certificates.specs.declared.certificate.Claim.{Claim}
use Rattle.command_parts.specs.CertificateTold.{outcome_line, told_line}
use Rattle.command_core.specs.Outcome.{Outcome, Done}

-- What a yes means: what the line that is written tells is true of the problem, for the point that
-- is given.
pub record IsClaimTrue (p : Problem) (claim : Claim) (g : Given) (bytes : List ℕ) : Type 0 where
  pub told : Told
  pub line : bytes ≡ told_line claim told
  pub true_of : IsTrueOf p (spread p.variables g.point) told

-- What a no means: what its line tells is so, of the point or of the leaf that it names. Leaves are
-- those over the linear program f.
pub record IsClaimDenied (p : Problem) (f : Linear) (c : CertificateValue)
    (outcome : Outcome) : Type 0 where
  pub cause : Cause
  pub line : outcome ≡ Done false (outcome_line c.claim (fails cause))
  pub denies : Denies p f (certificate_over p.variables p.constraints c.claim (given_in c)) cause
