-- The claims by what is not the case. They say nothing of values that are not there; of a problem
-- that a linear program means each value is there, and they are the same as those of Problem.
use Rattle.std.specs.Prelude.{◌≡◌, ℕ, ◌<◌, List, Some}
use Rattle.exact_numbers.specs.Rational.{ℚ}
use Rattle.certificates.specs.Points.{IsBetter}
use Rattle.certificates.specs.Problem.{Problem, IsConstraintMet, IsFeasible, IsRelaxed}

-- the objective has a value at the point, which is better than v
pub record IsBetterAt (p : Problem) (xs : List ℚ) (v : ℚ) : Type 0 where
  pub value : ℚ
  pub has : p.objective xs ≡ Some value
  pub better : IsBetter p.maximises value v

abbrev pub IsNoneBetter : Problem → ℚ → Type 0
IsNoneBetter p v = (xs : List ℚ) → IsFeasible p xs → ¬ IsBetterAt p xs v

abbrev pub IsNoneFeasible : Problem → Type 0
IsNoneFeasible p = (xs : List ℚ) → ¬ IsFeasible p xs

abbrev pub IsNoneRelaxed : Problem → Type 0
IsNoneRelaxed p = (xs : List ℚ) → ¬ IsRelaxed p xs

abbrev pub IsEachBeaten : Problem → Type 0
IsEachBeaten p = (v : ℚ) → (xs : List ℚ) × IsFeasible p xs × IsBetterAt p xs v

-- constraint i is not met at the point
pub record IsConstraintUnmet (p : Problem) (xs : List ℚ) (i : ℕ) : Type 0 where
  pub within : i < p.constraints
  pub unmet : ¬ IsConstraintMet p xs i
