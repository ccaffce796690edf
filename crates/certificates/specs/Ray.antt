-- Rays: directions in which a linear program has no end (rays of the recession cone, as the simplex
-- method hands them out).
use Rattle.std.specs.Prelude.{ℕ, ◌<◌, Bool, if◌then◌else◌, List, Option, Some, None, All}
use Rattle.std.specs.Option.{option_or}
use Rattle.exact_numbers.specs.Rational.{ℚ, zero_ℚ}
use Rattle.linear_program.specs.Linear.{Interval, Form, Linear, IsInside, linear_part, value_at, variable_count, row_count, row_at}
use Rattle.certificates.specs.Branch.{is_as_good}
use Rattle.certificates.specs.Points.{Numbers, bounds_of, IsBetter}
use Rattle.certificates.specs.Verdict.{first_fault, is_inside, run_form}

-- 0 in place of each side: a value that changes by this much, however often, stays within the sides
abbrev pub zero_side : Option ℚ → Option ℚ
zero_side None = None
zero_side (Some s) = Some zero_ℚ

abbrev pub recession : Interval → Interval
recession s = record { lower = zero_side s.lower; upper = zero_side s.upper }

-- along the ray no row and no variable comes nearer to a side, and the objective gets better
pub record IsRay (f : Linear) (ds : List ℚ) : Type 0 where
  pub rows : All (λ r. IsInside (recession r.side)
      (linear_part r.body.coefficient (variable_count f) ds)) f.rows
  pub bounds : (j : ℕ) → j < variable_count f
      → IsInside (recession (bounds_of f j)) (value_at ds j)
  pub better : IsBetter f.maximise (linear_part f.objective.coefficient (variable_count f) ds)
      zero_ℚ

-- ---- the test
pub data RayFault : Type 0 where
  ray_row_wide : ℕ → RayFault
  ray_row_broken : ℕ → RayFault
  ray_bound_broken : ℕ → RayFault
  ray_objective_wide : RayFault
  ray_no_better : RayFault

-- how much a form changes along the ray, term by term
abbrev pub without_constant : Form → Form
without_constant f = record f { constant = zero_ℚ }

unfoldable pub run_change : ℕ → Form → Numbers → Option ℚ
run_change n f d = run_form n (without_constant f) d

abbrev pub ray_row_check : ℕ → Interval → Option ℚ → Option RayFault
ray_row_check i s None = Some (ray_row_wide i)
ray_row_check i s (Some c) = if is_inside c (recession s) then None else Some (ray_row_broken i)

unfoldable pub ray_row_fault : Linear → Numbers → ℕ → Option RayFault
ray_row_fault f d i =
    ray_row_check i (row_at f i).side (run_change (variable_count f) (row_at f i).body d)

unfoldable pub ray_bound_fault : Linear → Numbers → ℕ → Option RayFault
ray_bound_fault f d j =
    if is_inside (d j) (recession (bounds_of f j)) then None else Some (ray_bound_broken j)

abbrev pub ray_objective_check : Bool → Option ℚ → Option RayFault
ray_objective_check max None = Some ray_objective_wide
ray_objective_check max (Some c) = if is_as_good max zero_ℚ c then Some ray_no_better else None

-- the first fault of a ray: rows, bounds, objective
unfoldable pub ray_fault : Linear → Numbers → Option RayFault
ray_fault f d =
    option_or
    (option_or (first_fault (ray_row_fault f d) (row_count f))
    (first_fault (ray_bound_fault f d) (variable_count f)))
    (ray_objective_check f.maximise (run_change (variable_count f) f.objective d))
