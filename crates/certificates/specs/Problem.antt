-- A mathematical program, and what can be said of it: which points are feasible, where a point
-- fails, and the usual answers of a solver. There is no tolerance. Each claim says by itself that
-- the values of which it speaks are there.
use Rattle.std.specs.Prelude.{◌≡◌, ◌⊎◌, ℕ, ◌<◌, Bool, IsTrue, List, Option, Some}
use Rattle.exact_numbers.specs.Rational.{ℚ, IsWhole}
use Rattle.linear_program.specs.Linear.{Interval, IsInside, value_at}
use Rattle.certificates.specs.Points.{IsAsGood, IsBetter}

-- Constraints and variables by number, and an objective. A body or the objective need not have a
-- value at each point, which lists a number for each variable.
pub record Problem : Type 0 where
  pub constraints : ℕ
  pub body : ℕ → List ℚ → Option ℚ
  pub side : ℕ → Interval
  pub variables : ℕ
  pub bound : ℕ → Interval
  pub is_whole : ℕ → Bool
  pub has_objective : Bool
  pub objective : List ℚ → Option ℚ
  pub maximises : Bool

-- ---- where a point fails
-- constraint i has a value at the point, which is not within its sides
pub record IsConstraintBroken (p : Problem) (xs : List ℚ) (i : ℕ) : Type 0 where
  pub within : i < p.constraints
  pub value : ℚ
  pub has : p.body i xs ≡ Some value
  pub broken : ¬ IsInside (p.side i) value

-- variable j is not within its bounds
pub record IsBoundBroken (p : Problem) (xs : List ℚ) (j : ℕ) : Type 0 where
  pub within : j < p.variables
  pub broken : ¬ IsInside (p.bound j) (value_at xs j)

-- variable j has to be whole, and is not
pub record IsNotWhole (p : Problem) (xs : List ℚ) (j : ℕ) : Type 0 where
  pub within : j < p.variables
  pub asked : IsTrue (p.is_whole j)
  pub broken : ¬ IsWhole (value_at xs j)

-- some constraint or some bound is broken at the point
abbrev pub IsBroken : Problem → List ℚ → Type 0
IsBroken p xs = ((i : ℕ) × IsConstraintBroken p xs i) ⊎ ((j : ℕ) × IsBoundBroken p xs j)

-- ---- feasible points
-- constraint i has a value at the point, which is within its sides
abbrev pub IsConstraintMet : Problem → List ℚ → ℕ → Type 0
IsConstraintMet p xs i = (v : ℚ) × (p.body i xs ≡ Some v) × IsInside (p.side i) v

-- each constraint is met, and each variable is within its bounds
pub record IsRelaxed (p : Problem) (xs : List ℚ) : Type 0 where
  pub met : (i : ℕ) → i < p.constraints → IsConstraintMet p xs i
  pub bounds : (j : ℕ) → j < p.variables → IsInside (p.bound j) (value_at xs j)

-- moreover each whole variable is whole
pub record IsFeasible (p : Problem) (xs : List ℚ) : Type 0 where
  pub relaxed : IsRelaxed p xs
  pub whole : (j : ℕ) → j < p.variables → IsTrue (p.is_whole j) → IsWhole (value_at xs j)

-- ---- claims
-- the objective has a value at the point, and v is at least as good
abbrev pub IsReached : Problem → ℚ → List ℚ → Type 0
IsReached p v xs = (w : ℚ) × (p.objective xs ≡ Some w) × IsAsGood p.maximises v w

-- v is a dual bound: at least as good as the objective at each feasible point. Where no point is
-- feasible each v is one.
pub record IsBound (p : Problem) (v : ℚ) : Type 0 where
  pub there : IsTrue p.has_objective
  pub best : (xs : List ℚ) → IsFeasible p xs → IsReached p v xs

-- the point is feasible, and the objective is v there
pub record IsSolution (p : Problem) (xs : List ℚ) (v : ℚ) : Type 0 where
  pub there : IsTrue p.has_objective
  pub feasible : IsFeasible p xs
  pub value : p.objective xs ≡ Some v

-- each point breaks some constraint or some bound, or some whole variable is not whole there
abbrev pub IsInfeasible : Problem → Type 0
IsInfeasible p = (xs : List ℚ) → IsBroken p xs ⊎ ((j : ℕ) × IsNotWhole p xs j)

-- whatever the value, some feasible point has a better one
abbrev pub IsUnbounded : Problem → Type 0
IsUnbounded p =
    (v : ℚ) → (xs : List ℚ) × (w : ℚ) × IsSolution p xs w × IsBetter p.maximises w v

-- ---- without the whole variables
-- the point is relaxed feasible with the value v, and b is at least as good as the objective at
-- each relaxed feasible point
pub record IsWithinGap (p : Problem) (xs : List ℚ) (v b : ℚ) : Type 0 where
  pub there : IsTrue p.has_objective
  pub relaxed : IsRelaxed p xs
  pub value : p.objective xs ≡ Some v
  pub best : (zs : List ℚ) → IsRelaxed p zs → IsReached p b zs

-- the value is the bound: no relaxed feasible point is better
abbrev pub IsBestRelaxed : Problem → List ℚ → ℚ → Type 0
IsBestRelaxed p xs v = IsWithinGap p xs v v
