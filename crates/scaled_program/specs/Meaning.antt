-- What a scaled program means.
use Rattle.std.specs.Prelude.{ℕ, ◌<◌, List, length, get_or, All, IsTrue}
use Rattle.exact_numbers.specs.Rational.{ℚ, zero_ℚ, IsWhole}
use Rattle.linear_program.specs.Linear.{AreOrdered, IsInside, form_value, linear_part, no_variable, unbounded, value_at}
use Rattle.scaled_program.specs.Program.{ScaledProgram, ScaledRow}

-- a row of n variables at an assignment
abbrev pub ScaledHolds : ℕ → List ℚ → ScaledRow → Type 0
ScaledHolds n xs r = IsInside r.side (linear_part r.coefficient n xs)

-- every row and every variable is within its sides, and every whole variable is whole
pub record IsScaledFeasible (s : ScaledProgram) (xs : List ℚ) : Type 0 where
  pub rows : All (ScaledHolds (length s.variables) xs) s.rows
  pub bounds : (j : ℕ) → j < length s.variables
      → IsInside (get_or s.variables j no_variable).bound (value_at xs j)
  pub whole : (j : ℕ) → j < length s.variables → IsTrue (get_or s.variables j no_variable).whole
      → IsWhole (value_at xs j)

abbrev pub scaled_objective : ScaledProgram → List ℚ → ℚ
scaled_objective s xs = form_value s.objective (length s.variables) xs

-- nothing asks for a row past the last
abbrev pub no_scaled_row : ScaledRow
no_scaled_row = record { name = List.[]; coefficient = λ j. zero_ℚ; side = unbounded }

-- the value of row k
abbrev pub scaled_row_value : ScaledProgram → List ℚ → ℕ → ℚ
scaled_row_value s xs k =
    linear_part (get_or s.rows k no_scaled_row).coefficient (length s.variables) xs

-- no lower side of a row is above its upper side
abbrev pub HasOrderedSides : ScaledProgram → Type 0
HasOrderedSides s = All (λ r. AreOrdered r.side.lower r.side.upper) s.rows
