-- What is said of a fault of scaling.
use Rattle.std.specs.Prelude.{ℕ, List, ◌++◌, codes}
use Rattle.std.specs.Fmt.{decimal}
use Rattle.row_scaling.specs.declared.scale_fault.ScaleFault.{ScaleFault}
use Rattle.row_scaling.specs.declared.scale_fault.ScaleFault.TheVariants.{RowTooWide, ObjectiveTooWide}

-- the words of each fault
abbrev pub scale_fault_text : ScaleFault → List ℕ
scale_fault_text (RowTooWide i) = codes "row too wide"
scale_fault_text ObjectiveTooWide = codes "objective too wide"

-- the same, with the row
abbrev pub shown_text : ScaleFault → List ℕ
shown_text (RowTooWide i) =
    codes "row " ++ decimal i ++ codes ": " ++ scale_fault_text (RowTooWide i)
shown_text ObjectiveTooWide = scale_fault_text ObjectiveTooWide
