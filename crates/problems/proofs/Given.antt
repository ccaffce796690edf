-- What is given for a claim: over a file it is over its linear program, and what it shows there it shows of the file.
use Rattle.std.proofs.Common.{◌≡◌, ℕ, length, subst, Option, None}
use Rattle.exact_numbers.specs.Rational.{ℚ}
use Rattle.linear_program.specs.Linear.{variable_count, row_count}
use Rattle.certificates.specs.Certificate.{holds, Cause, fails}
use Rattle.certificates.specs.Parts.{IsWholeVariable}
use Rattle.nl_model.specs.File.{File}
use Rattle.nl_model.specs.Rules.{IsFile}
use Rattle.nl_model.specs.FoldFaults.{fold_fault}
use Rattle.nl_model.specs.LinearFile.{linear_of}
use Rattle.nl_model.proofs.Files.{count_lem}
use Rattle.certificates.specs.Certificates.{CertificateValue, Given, IsGivenOver, IsCertificateOf, certificate_over, claim_outcome, claim_objective}
use Rattle.certificates.specs.Setting.{IsWholeFor}
use Rattle.certificates.proofs.Settings.{certificate_for, given_for}
use Rattle.problems.specs.Files.{IsCertificateIn}
use Rattle.problems.specs.NlSetting.{setting_of}
use Rattle.problems.proofs.NlSettings.{file_setting}
use Rattle.linear_program.specs.Numbers.{spread}
use Rattle.problems.proofs.Files.{meant, rows_counted}
use Rattle.certificates.specs.ProblemSays.{Denies}
use Rattle.certificates.specs.ToldMeaning.{IsToldTrue}
use Rattle.certificates.specs.Told.{told_claim}
use Rattle.problems.specs.FileProblem.{problem_of}
use Rattle.certificates.proofs.ClaimsTold.{given_denied, given_true}

-- ---- a certificate of a file is one of its linear program
given_of : (f : File) (k : ℕ) (g : Given) → IsGivenOver (IsWholeFor (setting_of f)) (length (setting_of f).kinds)
    (setting_of f).rows g → IsGivenOver (IsWholeVariable (linear_of f k)) (variable_count (linear_of f k))
    (row_count (linear_of f k)) g
given_of f k = given_for (linear_of f k) (setting_of f) (file_setting f k)

pub certificate_of : (f : File) (k : ℕ) (c : CertificateValue) → IsCertificateIn f c → IsCertificateOf (linear_of f k) c
certificate_of f k = certificate_for (linear_of f k) (setting_of f) (file_setting f k)

-- ---- what a claim says of the file
pub claim_true : (f : File) (c : CertificateValue) → IsFile f → fold_fault f (claim_objective c.claim) ≡ None
    → (h : IsCertificateIn f c) → (o : Option ℚ) → claim_outcome (linear_of f (claim_objective c.claim)) c.claim h.given
    ≡ holds o
    → IsToldTrue (problem_of f (claim_objective c.claim)) (spread f.counts.n_var h.given.point) (told_claim c.claim o)
claim_true f c file clean h o e =
    let k : ℕ = claim_objective c.claim in
    subst (λ n. IsToldTrue (problem_of f k) (spread n h.given.point) (told_claim c.claim o)) (count_lem f k)
    (given_true (linear_of f k) (problem_of f k) (meant f k file clean) c.claim h.given h.asked (given_of f k h.given h.fine) o e)

pub claim_denied : (f : File) (c : CertificateValue) → IsFile f → fold_fault f (claim_objective c.claim) ≡ None
    → (h : IsCertificateIn f c) → (cause : Cause) → claim_outcome (linear_of f (claim_objective c.claim)) c.claim h.given
    ≡ fails cause
    → Denies (problem_of f (claim_objective c.claim)) (linear_of f (claim_objective c.claim)) (certificate_over f.counts.n_var f.counts.n_con c.claim h.given) cause
claim_denied f c file clean h cause e =
    let k : ℕ = claim_objective c.claim in
    subst (λ n. Denies (problem_of f k) (linear_of f k) (certificate_over n f.counts.n_con c.claim h.given) cause) (count_lem f k)
    (subst (λ m. Denies (problem_of f k) (linear_of f k) (certificate_over (variable_count (linear_of f k)) m c.claim h.given) cause) (rows_counted f k)
    (given_denied (linear_of f k) (problem_of f k) (meant f k file clean) c.claim h.given h.asked (given_of f k h.given h.fine) cause e))
