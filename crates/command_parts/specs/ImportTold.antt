-- The lines that tell faults of an import.
use Rattle.std.specs.Prelude.{ℕ, List, ◌++◌, codes}
use Rattle.mps_program.specs.declared.mps_fault.MpsFault.{MpsFault}
use Rattle.mps_program.specs.declared.mps_fault.MpsFault.TheVariants.{EmptyInterval, TooWide, TooLarge}
use Rattle.mps_program.specs.Reasons.{mps_fault_text}
use Rattle.command_core.specs.Told.{refusal}

abbrev pub import_line : MpsFault → List ℕ
import_line TooLarge = codes "refused program: " ++ mps_fault_text TooLarge ++ codes "\n"
import_line (TooWide row) = refusal 1 (codes "row") row (mps_fault_text (TooWide row))
import_line (EmptyInterval column) =
    refusal 1 (codes "column") column (mps_fault_text (EmptyInterval column))
