-- What is said of a point, or of duals, that show nothing.
use Rattle.std.specs.Prelude.{ℕ, List, ◌++◌, codes}
use Rattle.std.specs.Fmt.{decimal}
use Rattle.certificates.specs.Verdict.{Place, at_row, at_bound, at_cost, at_objective, at_total, Fault, row_broken, bound_broken, row_side_missing, bound_side_missing, too_wide}

-- where a number does not fit
abbrev pub place_text : Place → List ℕ
place_text (at_row i) = codes "row " ++ decimal i
place_text (at_bound j) = codes "bound " ++ decimal j
place_text (at_cost j) = codes "cost " ++ decimal j
place_text at_objective = codes "objective"
place_text at_total = codes "total"

-- the words of each fault
abbrev pub cause_text : Fault → List ℕ
cause_text (row_broken i) = codes "row " ++ decimal i ++ codes " broken"
cause_text (bound_broken j) = codes "bound " ++ decimal j ++ codes " broken"
cause_text (row_side_missing i) = codes "row " ++ decimal i ++ codes " has no side"
cause_text (bound_side_missing j) = codes "bound " ++ decimal j ++ codes " has no side"
cause_text (too_wide place) = codes "too wide at " ++ place_text place
