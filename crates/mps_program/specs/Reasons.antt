-- What is said of a fault of a program.
use Rattle.std.specs.Prelude.{ℕ, List, ◌++◌, codes}
use Rattle.std.specs.Fmt.{decimal}
use Rattle.mps_program.specs.declared.mps_fault.MpsFault.{MpsFault}
use Rattle.mps_program.specs.declared.mps_fault.MpsFault.TheVariants.{EmptyInterval, TooWide, TooLarge}

-- the words of each fault
abbrev pub mps_fault_text : MpsFault → List ℕ
mps_fault_text (EmptyInterval column) = codes "empty interval"
mps_fault_text (TooWide row) = codes "too wide"
mps_fault_text TooLarge = codes "too large"

-- the same, with the column or the row
abbrev pub shown_text : MpsFault → List ℕ
shown_text (EmptyInterval column) =
    codes "column " ++ decimal column ++ codes ": " ++ mps_fault_text (EmptyInterval column)
shown_text (TooWide row) =
    codes "row " ++ decimal row ++ codes ": " ++ mps_fault_text (TooWide row)
shown_text TooLarge = codes "program: " ++ mps_fault_text TooLarge
