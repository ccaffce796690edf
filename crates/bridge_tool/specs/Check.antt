-- The command check: what a .sol text shows of the best value of an .nl text.
use Rattle.std.specs.Prelude.{◌≡◌, ℕ, ◌+◌, ◌≤◌, ℤ, pos, negsuc, false, true, List}
use Rattle.std.specs.Option.{option_map_or}
use Rattle.std.specs.declared.option.Option.{Option}
use Rattle.std.specs.declared.option.Option.TheVariants.{None, Some}
use Rattle.exact_numbers.specs.Rational.{ℚ}
use Rattle.certificates.specs.Problem.{IsBestRelaxed}
use Rattle.certificates.specs.ProblemSays.{VerdictSays}
use Rattle.certificates.specs.Verdict.{Verdict, verdict, yes}
use Rattle.text_base.specs.Desk.{Texts}
use Rattle.nl_model.specs.LinearFile.{linear_of}
use Rattle.linear_fold.specs.FoldedFaults.{first_fold_fault}
use Rattle.linear_fold.specs.declared.fold_fault.FoldFault.{FoldFault}
use Rattle.nl_segments.specs.Grammar.{NlValue}
use Rattle.nl_segments.specs.Reader.{IsNl}
use Rattle.sol_files.specs.Reader.{IsSol}
use Rattle.sol_files.specs.Sol.{Sol}
use Rattle.problems.specs.FileProblem.{problem_of}
use Rattle.certificate_check.specs.Fits.{fit_fault, given_by}
use Rattle.exact_checks.specs.Terms.{values_of}
use Rattle.certificate_check.specs.declared.fitting.FitFault.{FitFault}
use Rattle.command_parts.specs.NlTold.{fold_line}
use Rattle.command_core.specs.Outcome.{Outcome, Refused, Done}
use Rattle.command_core.specs.Promise.{Promise}
use Rattle.command_parts.specs.Refusal.{HasTextRefusal, IsSolRefused}
use Rattle.command_core.specs.SeveralFiles.{after_file, desk_promise, judges_last}
use Rattle.command_parts.specs.Stages.{fold_steps}
use Rattle.command_parts.specs.VerdictTold.{fit_line, is_yes, negative_line, verdict_line}

-- ---- what the values of both files come to

-- why a solution does not fit a file, where it does not
abbrev pub unfit : NlValue → Sol → Option FitFault
unfit nl s = fit_fault nl.file.counts (given_by s)

-- the number of the objective: that of the objno line, or 0 without one
abbrev pub objective_number : Sol → ℤ
objective_number s = option_map_or (λ t. t.0) s.objno (pos 0)

-- what the values of a solution show of the linear program of the file with objective k
abbrev pub shown : NlValue → Sol → ℕ → Verdict
shown nl s k = verdict (linear_of nl.file k) (values_of s.primals) (values_of s.duals)

abbrev pub by_verdict : Verdict → Outcome
by_verdict v = Done (is_yes v) (verdict_line v)

abbrev pub by_fold : NlValue → Sol → ℕ → Option FoldFault → Outcome
by_fold nl s k (Some fault) = Refused (fold_line nl.places fault)
by_fold nl s k None = by_verdict (shown nl s k)

abbrev pub by_number : NlValue → Sol → ℤ → Outcome
by_number nl s (pos k) = by_fold nl s k (first_fold_fault nl.file k)
by_number nl s (negsuc n) = Refused (negative_line (negsuc n))

abbrev pub by_fit : NlValue → Sol → Option FitFault → Outcome
by_fit nl s (Some fault) = Refused (fit_line fault)
by_fit nl s None = by_number nl s (objective_number s)

-- A solution that does not fit the file is refused; then an objective that the file does not have;
-- then a file that does not fold. Else the verdict on its values is written.
abbrev pub check_outcome : NlValue → Sol → Outcome
check_outcome nl s = by_fit nl s (unfit nl s)

-- ---- steps

abbrev pub steps_by_number : NlValue → ℤ → ℕ
steps_by_number nl (pos k) = fold_steps nl k
steps_by_number nl (negsuc n) = 0

abbrev pub steps_by_fit : NlValue → Sol → Option FitFault → ℕ
steps_by_fit nl s (Some fault) = 0
steps_by_fit nl s None = steps_by_number nl (objective_number s)

-- at most so many steps are counted: none where nothing is folded
abbrev pub most_steps : NlValue → Sol → ℕ
most_steps nl s = steps_by_fit nl s (unfit nl s)

-- ---- what a verdict means

-- Of a yes: the point of the solution is relaxed feasible in the file, its objective has the value
-- that the line tells, and this is at least as good as at each relaxed feasible point.
pub record IsCertified (nl : NlValue) (s : Sol) : Type 0 where
  pub number : ℕ
  pub value : ℚ
  pub objective : objective_number s ≡ pos number
  pub line : check_outcome nl s ≡ Done true (verdict_line (yes value))
  pub best : IsBestRelaxed (problem_of nl.file number) (values_of s.primals) value

-- of any other: what the line tells is so
pub record IsNotCertified (nl : NlValue) (s : Sol) : Type 0 where
  pub number : ℕ
  pub told : Verdict
  pub objective : objective_number s ≡ pos number
  pub line : check_outcome nl s ≡ Done false (verdict_line told)
  pub says : VerdictSays (problem_of nl.file number) (values_of s.primals) told

-- ---- the promise

abbrev pub check_told : List ℕ → List ℕ → Texts → Promise
check_told nl sol texts =
    after_file IsNl HasTextRefusal texts nl (λ file.
    after_file IsSol (IsSolRefused 2) texts sol (λ solution.
    judges_last (texts sol) (λ outcome. outcome ≡ check_outcome file solution)
    (λ old new. new ≤ old + most_steps file solution) (λ bytes. IsCertified file solution)
    (IsNotCertified file solution)))

abbrev pub check_promise : Option Texts → List ℕ → List ℕ → Promise
check_promise texts nl sol = desk_promise true (check_told nl sol) texts
