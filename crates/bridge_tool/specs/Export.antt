-- The command export: what an .nl text is exported as, and that this means the same.
use Rattle.std.specs.Prelude.{◌≡◌, ◌↔◌, ℕ, ◌+◌, ◌≤◌, false, List, [], ◌∷◌, ◌++◌, length, Some}
use Rattle.std.specs.declared.option.Option.{Option}
use Rattle.exact_numbers.specs.Rational.{ℚ}
use Rattle.exact_numbers.specs.Values.{value_text}
use Rattle.scaled_program.specs.Fits.{IsDecimal, IsScaledProgramOf}
use Rattle.scaled_program.specs.Program.{ScaledProgram}
use Rattle.scaled_program.specs.ExportedProgram.{mps_of}
use Rattle.nl_model.specs.Expressions.{maximises}
use Rattle.nl_model.specs.LinearFile.{linear_of}
use Rattle.nl_model.specs.Meaning.{IsFeasible, file_objective}
use Rattle.mps_model.specs.Mps.{Mps, IsMpsFeasible, mps_objective}
use Rattle.mps_model.specs.Text.{mps_text_by}
use Rattle.nl_model.specs.File.{File}
use Rattle.nl_segments.specs.Grammar.{NlValue}
use Rattle.nl_segments.specs.Reader.{IsNl}
use Rattle.text_base.specs.Desk.{Texts}
use Rattle.command_core.specs.Outcome.{DoneOrRefused, Outcome}
use Rattle.command_core.specs.Promise.{Promise}
use Rattle.command_parts.specs.Refusal.{HasTextRefusal}
use Rattle.command_core.specs.SeveralFiles.{after_file, desk_promise, ends}
use Rattle.command_parts.specs.Stages.{CanBeExported, CannotBeExported, fold_steps}

-- the file folds and scales with objective k, and these bytes are the text of its scaled program as
-- MPS
pub record IsExported (nl : NlValue) (k : ℕ) (bytes : List ℕ) : Type 0 where
  pub program : ScaledProgram
  pub staged : CanBeExported nl k
  pub exports : IsScaledProgramOf (linear_of nl.file k) program
  pub written : bytes ≡ mps_text_by value_text (mps_of program)

-- what a file with objective k comes to: its program's text is written, or a line refuses it
abbrev pub ExportsAs : NlValue → ℕ → Outcome → Type 0
ExportsAs nl k = DoneOrRefused (IsExported nl k) (CannotBeExported nl k)

-- an assignment satisfies the program exactly where it satisfies the file, with the same objective
-- value and sense; a list that is too short has 0 for the rest
pub record IsSameProgram (f : File) (k : ℕ) (m : Mps ℚ) : Type 0 where
  pub points : (xs : List ℚ) → IsMpsFeasible m xs ↔ IsFeasible f xs
  pub objective : (xs : List ℚ) → file_objective f k xs ≡ Some (mps_objective m xs)
  pub sense : m.maximise ≡ maximises f k

-- The program has one column more. An assignment with one number more satisfies the program exactly
-- where the assignment satisfies the file and the number is the objective's value; the program's
-- objective is that number.
pub record IsTiedProgram (f : File) (k : ℕ) (m : Mps ℚ) : Type 0 where
  pub points : (xs : List ℚ) (z : ℚ) → length xs ≡ f.counts.n_var → IsMpsFeasible m (xs ++ z ∷ [])
      ↔ (IsFeasible f xs × (file_objective f k xs ≡ Some z))
  pub objective : (xs : List ℚ) (z : ℚ) → length xs ≡ f.counts.n_var
      → mps_objective m (xs ++ z ∷ []) ≡ z
  pub sense : m.maximise ≡ maximises f k

-- the program means what the file with objective k means; it is tied where a number of the
-- objective is no decimal that fits
pub record MeansTheFile (f : File) (k : ℕ) (m : Mps ℚ) : Type 0 where
  pub plain : IsDecimal (linear_of f k) → IsSameProgram f k m
  pub tied : (IsDecimal (linear_of f k) → ⊥) → IsTiedProgram f k m

-- every program that the file may be exported as means what the file means
abbrev pub IsExportMeant : NlValue → ℕ → Type 0
IsExportMeant nl k =
    (bytes : List ℕ) (e : IsExported nl k bytes) → MeansTheFile nl.file k (mps_of e.program)

-- ---- the promise

-- at a desk with these texts: the file is read, and then exported
abbrev pub export_told : List ℕ → ℕ → Texts → Promise
export_told file k texts =
    after_file IsNl HasTextRefusal texts file (λ nl.
    ends texts file (ExportsAs nl k) (λ old new. new ≤ old + fold_steps nl k) (IsExportMeant nl k))

-- at any desk: of one that does not tell its texts, only that it does not
abbrev pub export_promise : Option Texts → List ℕ → ℕ → Promise
export_promise texts file k = desk_promise false (export_told file k) texts
