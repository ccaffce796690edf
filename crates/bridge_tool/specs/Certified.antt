-- The command certified: the .sol text of a claim on an .nl text, where its certificate holds.
use Rattle.std.specs.Prelude.{◌≡◌, ◌≢◌, IsSomeAnd, ℕ, ◌+◌, ◌≤◌, ℤ, pos, false, true, List, [], ◌∷◌, ◌++◌, codes}
use Rattle.std.specs.declared.option.Option.{Option}
use Rattle.std.specs.declared.option.Option.TheVariants.{None, Some}
use Rattle.exact_numbers.specs.Rational.{ℚ}
use Rattle.certificates.specs.Certificate.{Cause, ClaimOutcome, holds, fails}
use Rattle.certificates.specs.Problem.{Problem, IsFeasible}
use Rattle.certificates.specs.ProblemSays.{Denies}
use Rattle.certificates.specs.ToldMeaning.{Told, IsTrueOf, optimal, within, bound, feasible, infeasible, unbounded}
use Rattle.text_base.specs.Desk.{Texts}
use Rattle.text_base.specs.Reading.{lines_of}
use Rattle.nl_segments.specs.Grammar.{NlValue}
use Rattle.nl_segments.specs.Reader.{IsNl}
use Rattle.certificates.specs.Certificates.{CertificateValue, certificate_over, claim_objective}
use Rattle.certificates.specs.Reading.{given_in}
use Rattle.certificate_text.specs.Reader.{IsCertificateText}
use Rattle.exact_checks.specs.Terms.{values_of}
use Rattle.certified_solution.specs.Lagrangian.{ShowBound}
use Rattle.certified_solution.specs.Solution.{IsNotDecimal, IsSolutionOf}
use Rattle.problems.specs.NlSetting.{setting_of}
use Rattle.sol_files.specs.Sol.{Sol}
use Rattle.sol_files.specs.Written.{sol_text}
use Rattle.command_parts.specs.CertificateTold.{objective_text, outcome_text, told_text}
use Rattle.command_parts.specs.Refusal.{HasTextRefusal, IsCertificateRefused}
use Rattle.command_parts.specs.Stages.{fold_steps}
use Rattle.command_core.specs.Outcome.{DoneOrRefused, Outcome, Refused, Done}
use Rattle.command_core.specs.Promise.{Promise}
use Rattle.command_core.specs.SeveralFiles.{IsTextOf, after_file, desk_promise, judges_last, saying}
use Rattle.bridge_tool.specs.Verify.{claim_shown, nl_claim_row, nl_states}

-- ---- what the values of both files come to

-- of options, counts, a message line and a certificate: the written text of the .sol value that
-- they make; or the line that tells that a value of the point has no decimal
abbrev pub IsTextMade : (options : List ℤ) (m n : ℕ) (line : List ℕ) → CertificateValue → List ℕ
    → Type 0
IsTextMade options m n line c bytes =
    (s : Sol) × (IsSolutionOf options m n line c.claim (given_in c) s × (bytes ≡ sol_text s))

abbrev pub IsNotDecimalLine : ℕ → CertificateValue → List ℕ → Type 0
IsNotDecimalLine n c line = IsNotDecimal n c.claim (given_in c)
    × (line ≡ codes "refused file 2: value not decimal\n")

abbrev pub TextComes : (options : List ℤ) (m n : ℕ) (line : List ℕ) → CertificateValue → Outcome
    → Type 0
TextComes options m n line c =
    DoneOrRefused (IsTextMade options m n line c) (IsNotDecimalLine n c)

-- by the verdict: where it is not yes, nothing is written
abbrev pub ByShown : NlValue → CertificateValue → ClaimOutcome → Outcome → Type 0
ByShown nl c (fails cause) = λ outcome. outcome ≡ Done false []
ByShown nl c (holds value) =
    TextComes nl.file.options nl.file.counts.n_con nl.file.counts.n_var
    (outcome_text c.claim (holds value)) c

-- a file that does not fold is refused with its line
abbrev pub ByLinear : NlValue → CertificateValue → ClaimOutcome → Option (List ℕ) → Outcome
    → Type 0
ByLinear nl c shown (Some line) = λ outcome. outcome ≡ Refused line
ByLinear nl c shown None = ByShown nl c shown

-- what is shown of the linear program of the file
abbrev pub shown_of : NlValue → CertificateValue → ClaimOutcome
shown_of nl c = claim_shown (nl_claim_row.linear nl (claim_objective c.claim)) c

abbrev pub CertifiesAs : NlValue → CertificateValue → Outcome → Type 0
CertifiesAs nl c =
    ByLinear nl c (shown_of nl c) (nl_claim_row.no_linear nl (claim_objective c.claim))

-- ---- what a verdict means

-- the solver's code of what is told
abbrev pub told_code : Told → ℕ
told_code (optimal v) = 0
told_code (within b v) = 100
told_code (bound v) = 450
told_code (feasible v) = 100
told_code infeasible = 200
told_code unbounded = 300

-- the bound of the objective that is told, where one is
abbrev pub told_bound : Told → Option ℚ
told_bound (optimal v) = Some v
told_bound (within b v) = Some b
told_bound (bound v) = Some v
told_bound (feasible v) = None
told_bound infeasible = None
told_bound unbounded = None

-- the values are a feasible point, whole variables whole; or there are none
abbrev pub IsPointTold : Problem → List ℚ → Told → Type 0
IsPointTold p xs (optimal v) = IsFeasible p xs
IsPointTold p xs (within b v) = IsFeasible p xs
IsPointTold p xs (bound v) = xs ≡ []
IsPointTold p xs (feasible v) = IsFeasible p xs
IsPointTold p xs infeasible = xs ≡ []
IsPointTold p xs unbounded = IsFeasible p xs

-- What the .sol value says by itself of the problem with objective k: its message tells what is true
-- with its values as the point; its objno line has the objective and the code of what is told; and
-- where duals are given, a bound is told, and they show it.
pub record IsSolTrue (p : Problem) (k : ℕ) (s : Sol) : Type 0 where
  pub told : Told
  pub message : s.message ≡ (told_text told ++ objective_text k) ∷ []
  pub true_of : IsTrueOf p (values_of s.primals) told
  pub point : IsPointTold p (values_of s.primals) told
  pub objno : s.objno ≡ Some (pos k, pos (told_code told))
  pub duals : values_of s.duals ≢ []
      → IsSomeAnd (told_bound told) (ShowBound p (values_of s.duals))

-- What a yes says: which problem the text states, and that the bytes are the text of a .sol value
-- that is true of it.
pub record SaysCertified (texts : Texts) (nl bytes : List ℕ) : Type 0 where
  pub objective : ℕ
  pub problem : Problem
  pub sol : Sol
  pub says : IsTextOf texts nl (λ t. nl_states (lines_of t) objective problem)
  pub text : bytes ≡ sol_text sol
  pub true_of : IsSolTrue problem objective sol

-- the same of the value that was read
pub record IsCertifiedTrue (nl : NlValue) (c : CertificateValue) (bytes : List ℕ) : Type 0 where
  pub sol : Sol
  pub text : bytes ≡ sol_text sol
  pub true_of : IsSolTrue (nl_claim_row.problem nl (claim_objective c.claim))
      (claim_objective c.claim) sol

-- what a no means: the verdict has a cause, and what that tells is so
pub record IsNotShown (nl : NlValue) (c : CertificateValue) : Type 0 where
  pub cause : Cause
  pub shown : shown_of nl c ≡ fails cause
  pub denies : let k = claim_objective c.claim in let p = nl_claim_row.problem nl k in
      Denies p (nl_claim_row.linear nl k)
      (certificate_over p.variables p.constraints c.claim (given_in c)) cause

-- ---- the promise

abbrev pub certified_read : (nl certificate : List ℕ) → Texts → Promise
certified_read nl certificate texts =
    after_file IsNl HasTextRefusal texts nl (λ file.
    after_file (IsCertificateText (setting_of file.file))
    (IsCertificateRefused (setting_of file.file) 2) texts certificate (λ c.
    judges_last (texts certificate) (CertifiesAs file c)
    (λ old new. new ≤ old + fold_steps file (claim_objective c.claim))
    (IsCertifiedTrue file c) (IsNotShown file c)))

abbrev pub certified_told : (nl certificate : List ℕ) → Texts → Promise
certified_told nl certificate texts =
    saying (SaysCertified texts nl) (certified_read nl certificate texts)

abbrev pub certified_promise : Option Texts → (nl certificate : List ℕ) → Promise
certified_promise texts nl certificate = desk_promise true (certified_told nl certificate) texts
