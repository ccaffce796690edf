-- The points of a linear program, by row and by variable.
use Rattle.std.specs.Prelude.{ℕ, ◌<◌, Bool, true, false, List, All}
use Rattle.exact_numbers.specs.Rational.{ℚ, ◌≤ℚ◌, ◌<ℚ◌}
use Rattle.linear_program.specs.Linear.{Interval, Linear, IsInside, value_at, variable_at, variable_count, RowHolds}

-- a number for each index
abbrev pub Numbers : Type 0
Numbers = ℕ → ℚ

-- bounds of the variables: those of the program, or narrower ones
abbrev pub Box : Type 0
Box = ℕ → Interval

abbrev pub bounds_of : Linear → Box
bounds_of f j = (variable_at f j).bound

-- every row is within its sides, and every variable within the box
pub record IsRelaxedIn (f : Linear) (box : Box) (xs : List ℚ) : Type 0 where
  pub rows : All (RowHolds (variable_count f) xs) f.rows
  pub bounds : (j : ℕ) → j < variable_count f → IsInside (box j) (value_at xs j)

-- a is a better objective value than b
abbrev pub IsBetter : Bool → ℚ → ℚ → Type 0
IsBetter true a b = b <ℚ a
IsBetter false a b = a <ℚ b

-- a is at least as good as b
abbrev pub IsAsGood : Bool → ℚ → ℚ → Type 0
IsAsGood true a b = b ≤ℚ a
IsAsGood false a b = a ≤ℚ b
