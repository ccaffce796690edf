-- What is said of a fault of the fold.
use Rattle.std.specs.Prelude.{ℕ, List, ◌++◌, codes}
use Rattle.std.specs.Fmt.{decimal}
use Rattle.linear_fold.specs.declared.fold_fault.FoldFault.{FoldFault}
use Rattle.linear_fold.specs.declared.fold_fault.FoldFault.TheVariants.{Nonlinear, DivideByZero, TooWide, RefusedPower, FoldTooLarge, NoSuchObjective}

-- the words of each fault
abbrev pub fold_fault_text : FoldFault → List ℕ
fold_fault_text (Nonlinear at) = codes "nonlinear"
fold_fault_text (DivideByZero at) = codes "division by zero"
fold_fault_text (TooWide at) = codes "too wide"
fold_fault_text (RefusedPower at) = codes "refused power"
fold_fault_text (FoldTooLarge at) = codes "fold too large"
fold_fault_text (NoSuchObjective k) = codes "no such objective"

-- the same, with the objective that there is none of; a place is not said
abbrev pub shown_text : FoldFault → List ℕ
shown_text (NoSuchObjective k) =
    codes "objective " ++ decimal k ++ codes ": " ++ fold_fault_text (NoSuchObjective k)
shown_text fault = fold_fault_text fault
