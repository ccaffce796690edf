-- The lines of verdicts, and of faults of solutions that do not fit their file.
use Rattle.std.specs.Prelude.{ℕ, ℤ, Bool, true, false, List, ◌++◌, codes}
use Rattle.std.specs.Fmt.{signed_decimal}
use Rattle.certificates.specs.Verdict.{Verdict, yes, gap, refused}
use Rattle.certificate_check.specs.declared.fitting.FitFault.{FitFault}
use Rattle.certificate_check.specs.Fits.{fit_text}
use Rattle.exact_checks.specs.Reasons.{cause_text}
use Rattle.command_core.specs.Told.{number_text}

-- ---- verdicts

abbrev pub verdict_text : Verdict → List ℕ
verdict_text (yes v) = codes "yes " ++ number_text v
verdict_text (gap v b) = codes "gap " ++ number_text v ++ codes " " ++ number_text b
verdict_text (refused cause) = cause_text cause

abbrev pub verdict_line : Verdict → List ℕ
verdict_line v = verdict_text v ++ codes "\n"

abbrev pub is_yes : Verdict → Bool
is_yes (yes v) = true
is_yes (gap v b) = false
is_yes (refused cause) = false

-- ---- refusals

-- the solution, which is the second file of its command, does not fit the first
abbrev pub fit_line : FitFault → List ℕ
fit_line fault = codes "refused file 2: " ++ fit_text fault ++ codes "\n"

-- no file has an objective of a number below 0
abbrev pub negative_line : ℤ → List ℕ
negative_line number =
    codes "refused objective " ++ signed_decimal number ++ codes ": no such objective\n"
