-- What is said of a leaf that does not close, by its kind.
use Rattle.std.specs.Prelude.{ℕ, ◌<◌, ◌-◌, nat_lt, Bool, false, if◌then◌else◌, List}
use Rattle.std.specs.Option.{option_map_or}
use Rattle.exact_numbers.specs.Rational.{ℚ, zero_ℚ, ◌≤ℚ◌, ◌*ℚ◌, ◌-ℚ◌}
use Rattle.exact_numbers.specs.Sums.{sum_below}
use Rattle.linear_program.specs.Linear.{Linear, IsInside, form_value, row_at, row_count, value_at, variable_count}
use Rattle.certificates.specs.Branch.{BranchTree, split, duals, weights, LeafFault, row_side, bound_side, wide, open_gap, leaves}
use Rattle.certificates.specs.Parts.{Part, Cut, bound, plane, lemma, NumberForm, first_part, second_part, sum_of, whole_part}
use Rattle.certificates.specs.Points.{Box, Numbers, IsRelaxedIn}
use Rattle.certificates.specs.Problem.{Problem, IsReached}
use Rattle.certificates.specs.Verdict.{needed_side}

-- ---- leaves
-- what the duals of a leaf bound: the objective; in the proof of a lemma its sum, from above
pub data Goal : Type 0 where
  objective : Goal
  sum : NumberForm → Goal

-- a leaf over its part, whose program has the rows that were added above it
pub data Leaf : Type 0 where
  duals_at : Goal → Part → Leaf
  weights_at : List ℚ → Part → Leaf

abbrev pub goal_of_first : Cut → Goal → Goal
goal_of_first (bound j t) goal = goal
goal_of_first (plane form t) goal = goal
goal_of_first (lemma form t) goal = sum form

-- leaf n of a tree over a part
unfoldable pub leaf_at : Goal → Part → BranchTree → ℕ → Leaf
leaf_at goal p (split cut first second) n =
    if nat_lt n (leaves first)
    then leaf_at (goal_of_first cut goal) (first_part cut p) first n
    else leaf_at goal (second_part cut p) second (n - leaves first)
leaf_at goal p (duals ys) n = duals_at goal p
leaf_at goal p (weights ys) n = weights_at ys p

-- ---- gaps
-- b is at least as good as what is bound, at a point
abbrev pub IsGoalReached : Problem → Goal → ℚ → List ℚ → Type 0
IsGoalReached p objective b xs = IsReached p b xs
IsGoalReached p (sum form) b xs = form_value (sum_of form) p.variables xs ≤ℚ b

abbrev pub IsInBox : Linear → Box → List ℚ → Type 0
IsInBox f box xs = (j : ℕ) → j < variable_count f → IsInside (box j) (value_at xs j)

-- what row i lacks at a point to the side that its number y i needs, times this number; a number
-- that is not 0 needs one
abbrev pub weighted_lack : Bool → Linear → Numbers → List ℚ → ℕ → ℚ
weighted_lack max f y xs i =
    option_map_or (λ side. y i *ℚ (side -ℚ form_value (row_at f i).body (variable_count f) xs))
    (needed_side max (y i).top (row_at f i).side) zero_ℚ

-- Of duals: b bounds the objective, or the sum of the lemma, at each point of the part, whole
-- variables or not. Of weights: at each point within the bounds of the part its rows, weighted and
-- summed up, lack b or more; only above 0 that is a contradiction, and b is not above 0.
abbrev pub GapSays : Problem → Leaf → ℚ → Type 0
GapSays p (duals_at goal part) b =
    (xs : List ℚ) → IsRelaxedIn part.program part.box xs → IsGoalReached p goal b xs
GapSays p (weights_at ys part) b =
    b ≤ℚ zero_ℚ
    × ((xs : List ℚ) → IsInBox part.program part.box xs
    → b ≤ℚ sum_below (weighted_lack false part.program (value_at ys) xs) (row_count part.program))

-- of a gap: the tree has leaf n, and b says so of it; of another fault nothing
abbrev pub LeafDenies : Problem → Part → BranchTree → LeafFault → Type 0
LeafDenies p part tree (row_side n i) = Unit {0}
LeafDenies p part tree (bound_side n j) = Unit {0}
LeafDenies p part tree (wide n) = Unit {0}
LeafDenies p part tree (open_gap n b) =
    (n < leaves tree) × GapSays p (leaf_at objective part tree n) b

-- it says so of a leaf of a tree over a program, whichever value is to be met
abbrev pub IsLeafDenied : Problem → Linear → BranchTree → LeafFault → Type 0
IsLeafDenied p f tree fault = LeafDenies p (whole_part f zero_ℚ) tree fault
