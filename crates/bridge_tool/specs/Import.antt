-- An MPS program as the .nl text of a file that means the same.
use Rattle.std.specs.Prelude.{◌≡◌, ◌↔◌, ℕ, true, List}
use Rattle.std.specs.declared.option.Option.{Option}
use Rattle.std.specs.declared.option.Option.TheVariants.{None, Some}
use Rattle.exact_numbers.specs.Rational.{ℚ}
use Rattle.exact_numbers.specs.declared.dec.Dec.{Dec}
use Rattle.nl_model.specs.Expressions.{maximises}
use Rattle.nl_model.specs.Meaning.{IsFeasible, file_objective}
use Rattle.mps_model.specs.Mps.{IsMpsFeasible, Mps, mps_objective}
use Rattle.mps_program.specs.declared.mps_fault.MpsFault.{MpsFault}
use Rattle.mps_import.specs.Faults.{import_fault}
use Rattle.mps_import.specs.Import.{import_of}
use Rattle.mps_import.specs.Variables.{in_order}
use Rattle.mps_program.specs.Program.{values_of}
use Rattle.nl_writer.specs.Written.{nl_text}
use Rattle.command_parts.specs.ImportTold.{import_line}
use Rattle.command_core.specs.Outcome.{Done, Outcome, Refused}

-- a program with a first fault is refused; else the text of its file is written
abbrev pub by_fault : Mps Dec → Option MpsFault → Outcome
by_fault m (Some fault) = Refused (import_line fault)
by_fault m None = Done true (nl_text (import_of m))

-- what a program comes to
abbrev pub import_outcome : Mps Dec → Outcome
import_outcome m = by_fault m (import_fault m)

-- a program without a fault is imported as the text of its file
abbrev pub IsImportedAs : Mps Dec → List ℕ → Type 0
IsImportedAs m bytes = (import_fault m ≡ None) × (bytes ≡ nl_text (import_of m))

-- this line tells the first fault of a program
abbrev pub CannotBeImported : Mps Dec → List ℕ → Type 0
CannotBeImported m line =
    (fault : MpsFault) × (import_fault m ≡ Some fault) × (line ≡ import_line fault)

-- at every point of the columns the file is satisfied exactly where the program is, by the point in
-- the order of the variables, with the same value of the objective; the sense is the same
pub record MeansTheProgram (m : Mps Dec) : Type 0 where
  pub feasible : (xs : List ℚ) → IsMpsFeasible (values_of m) xs
      ↔ IsFeasible (import_of m) (in_order m xs)
  pub objective : (xs : List ℚ) → file_objective (import_of m) 0 (in_order m xs)
      ≡ Some (mps_objective (values_of m) xs)
  pub sense : maximises (import_of m) 0 ≡ m.maximise
