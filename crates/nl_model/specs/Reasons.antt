-- What is said of a tree that has no line.
use Rattle.std.specs.Prelude.{ℕ, List, codes}
use Rattle.nl_model.specs.declared.fault.Reason.{Reason}
use Rattle.nl_model.specs.declared.fault.Reason.TheVariants.{Nonlinear, DivideByZero, TooWide, RefusedPower}

-- the words of each reason
abbrev pub tree_reason_text : Reason → List ℕ
tree_reason_text Nonlinear = codes "nonlinear"
tree_reason_text DivideByZero = codes "division by zero"
tree_reason_text TooWide = codes "too wide"
tree_reason_text RefusedPower = codes "refused power"
