-- What duals say of a problem by themselves: the Lagrangian, and the bound that it shows (weak
-- duality). A dual above 0 needs the lower side of its constraint where the objective is minimised,
-- the upper one where it is maximised, and a dual below 0 the other: so a dual is the change of the
-- objective per unit of that side, for both senses (AMPL's sign).
use Rattle.std.specs.Prelude.{◌≡◌, ℕ, ◌<◌, Bool, IsTrue, List, Some}
use Rattle.std.specs.Option.{option_map_or}
use Rattle.exact_numbers.specs.Rational.{ℚ, zero_ℚ, ◌+ℚ◌, ◌*ℚ◌, ◌-ℚ◌}
use Rattle.exact_numbers.specs.Sums.{sum_below}
use Rattle.linear_program.specs.Linear.{Interval, IsInside, value_at}
use Rattle.certificates.specs.Points.{IsAsGood}
use Rattle.certificates.specs.Problem.{Problem}
use Rattle.certificates.specs.Verdict.{has_needed, needed_side}

-- each variable is within its bounds; the constraints need not be met
abbrev pub IsWithinBounds : Problem → List ℚ → Type 0
IsWithinBounds p xs = (j : ℕ) → j < p.variables → IsInside (p.bound j) (value_at xs j)

-- what a constraint, whose body has this value, lacks to the side that its dual needs, times the
-- dual
abbrev pub priced_lack : (maximises : Bool) (side : Interval) (y body : ℚ) → ℚ
priced_lack maximises side y body =
    option_map_or (λ s. y *ℚ (s -ℚ body)) (needed_side maximises y.top side) zero_ℚ

-- l is the Lagrangian of the duals ys at a point: the objective, and what the constraints lack, each
-- times its dual
pub record IsLagrangian (p : Problem) (ys xs : List ℚ) (l : ℚ) : Type 0 where
  pub value : ℚ
  pub objective : p.objective xs ≡ Some value
  pub body : ℕ → ℚ
  pub bodies : (i : ℕ) → i < p.constraints → p.body i xs ≡ Some (body i)
  pub total : l ≡ value
      +ℚ sum_below (λ i. priced_lack p.maximises (p.side i) (value_at ys i) (body i))
      p.constraints

-- The duals show that b bounds the objective: each that is not 0 has the side that it needs, and at
-- each point within the bounds of the variables b is at least as good as the Lagrangian. At a
-- feasible point nothing is lacking, so that it is at least as good as the objective there.
pub record ShowBound (p : Problem) (ys : List ℚ) (b : ℚ) : Type 0 where
  pub sides : (i : ℕ) → i < p.constraints
      → IsTrue (has_needed p.maximises (value_at ys i) (p.side i))
  pub best : (xs : List ℚ) → IsWithinBounds p xs
      → (l : ℚ) × IsLagrangian p ys xs l × IsAsGood p.maximises b l
