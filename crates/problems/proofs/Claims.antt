-- What a verdict on a certificate says of the problem of an MPS program.
use Rattle.std.proofs.Common.{◌≡◌, length, sym, subst, Option}
use Rattle.exact_numbers.specs.Rational.{ℚ}
use Rattle.linear_program.specs.Linear.{variable_count}
use Rattle.certificates.specs.Certificate.{Cause, fails, holds}
use Rattle.certificates.specs.ProblemSays.{Denies}
use Rattle.certificates.specs.ToldMeaning.{IsToldTrue}
use Rattle.exact_numbers.specs.declared.dec.Dec.{Dec}
use Rattle.linear_program.specs.Numbers.{spread}
use Rattle.mps_model.specs.Mps.{Mps}
use Rattle.mps_program.specs.Program.{constraints, linear_of, values_of}
use Rattle.mps_program.proofs.LawLemmas.{count_lem}
use Rattle.certificates.specs.Certificates.{CertificateValue, certificate_over, claim_outcome}
use Rattle.certificates.specs.Setting.{IsCertificateFor}
use Rattle.certificates.specs.Told.{told_claim}
use Rattle.certificates.proofs.ClaimsTold.{given_denied, given_true}
use Rattle.certificates.proofs.Settings.{given_for}
use Rattle.problems.specs.Problem.{mps_problem}
use Rattle.problems.specs.MpsSetting.{mps_setting}
use Rattle.problems.proofs.Meaning.{constraints_counted, mps_means}
use Rattle.problems.proofs.MpsSettings.{program_setting}

module _ (m : Mps Dec) (c : CertificateValue) (h : IsCertificateFor (mps_setting m) c) where
  pub claim_true : (o : Option ℚ) → claim_outcome (linear_of (values_of m)) c.claim h.given ≡ holds o
      → IsToldTrue (mps_problem (values_of m)) (spread (length (values_of m).columns) h.given.point) (told_claim c.claim o)
  claim_true o e =
      let p = mps_problem (values_of m) in
      subst (λ n. IsToldTrue p (spread n h.given.point) (told_claim c.claim o)) (count_lem (values_of m))
      (given_true (linear_of (values_of m)) p (mps_means (values_of m)) c.claim h.given h.asked (given_for (linear_of (values_of m)) (mps_setting m) (program_setting m) h.given h.fine) o e)

  pub claim_denied : (cause : Cause) → claim_outcome (linear_of (values_of m)) c.claim h.given ≡ fails cause
      → Denies (mps_problem (values_of m)) (linear_of (values_of m)) (certificate_over (length (values_of m).columns) (length (constraints (values_of m).rows)) c.claim h.given) cause
  claim_denied cause e =
      let p = mps_problem (values_of m) in
      let f = linear_of (values_of m) in
      subst (λ n. Denies p f (certificate_over n (length (constraints (values_of m).rows)) c.claim h.given) cause) (count_lem (values_of m))
      (subst (λ k. Denies p f (certificate_over (variable_count f) k c.claim h.given) cause) (sym (constraints_counted (values_of m)))
      (given_denied f p (mps_means (values_of m)) c.claim h.given h.asked (given_for f (mps_setting m) (program_setting m) h.given h.fine) cause e))
