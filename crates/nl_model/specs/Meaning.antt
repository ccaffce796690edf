-- What an .nl file means (Gay 2005, "Writing .nl Files"): values at assignments, and which
-- assignments are feasible.
use Rattle.std.specs.Prelude.{ℕ, ◌<◌, Bool, true, false, IsTrue, List, get_or, Option, Some, None}
use Rattle.exact_numbers.specs.Rational.{ℚ, ◌<ℚ◌, IsWhole}
use Rattle.linear_program.specs.Linear.{Interval, IsInside, value_at}
use Rattle.nl_model.specs.Trees.{expression_value}
use Rattle.nl_model.specs.File.{File}
use Rattle.nl_model.specs.Kinds.{variable_kind}
use Rattle.nl_model.specs.Expressions.{definitions_of, body_of, objective_of}
use Rattle.linear_program.specs.Intervals.{interval_of, no_sides, is_whole_kind}

-- ---- values
-- the value of body i at an assignment, which lists a number for each variable
abbrev pub body_value : File → ℕ → List ℚ → Option ℚ
body_value f i xs = expression_value (definitions_of f) (body_of f i) (value_at xs)

-- the value of objective k
abbrev pub file_objective : File → ℕ → List ℚ → Option ℚ
file_objective f k xs = expression_value (definitions_of f) (objective_of f k) (value_at xs)

-- ---- sides and kinds
-- the sides of constraint i, and of variable j
abbrev pub side_of : File → ℕ → Interval
side_of f i = interval_of (get_or f.sides i no_sides)

abbrev pub bound_of : File → ℕ → Interval
bound_of f j = interval_of (get_or f.bounds j no_sides)

-- variable j is binary or integer
abbrev pub is_whole_variable : File → ℕ → Bool
is_whole_variable f j = is_whole_kind (variable_kind f.counts j)

-- ---- feasible assignments
-- there is a value, and it is within the sides
abbrev pub HasValueInside : Interval → Option ℚ → Type 0
HasValueInside s None = ⊥
HasValueInside s (Some v) = IsInside s v

-- each body has a value within its sides, and each variable is within its bounds
pub record IsRelaxed (f : File) (xs : List ℚ) : Type 0 where
  pub bodies : (i : ℕ) → i < f.counts.n_con → HasValueInside (side_of f i) (body_value f i xs)
  pub bounds : (j : ℕ) → j < f.counts.n_var → IsInside (bound_of f j) (value_at xs j)

-- moreover each binary or integer variable is whole
pub record IsFeasible (f : File) (xs : List ℚ) : Type 0 where
  pub relaxed : IsRelaxed f xs
  pub whole : (j : ℕ) → j < f.counts.n_var → IsTrue (is_whole_variable f j)
      → IsWhole (value_at xs j)

-- a value is better than another where it is greater when maximising, and smaller when minimising;
-- a missing value is neither better nor worse
abbrev pub IsBetterValue : Bool → Option ℚ → Option ℚ → Type 0
IsBetterValue true (Some v) (Some w) = w <ℚ v
IsBetterValue false (Some v) (Some w) = v <ℚ w
IsBetterValue maximise v w = ⊥
