-- What the answers of the code say.
use Rattle.std.specs.Prelude.{ℕ, Option, Result, Ok, Err}
use Rattle.std.specs.Option.{option_map}
use Rattle.certificates.specs.Branch.{LeafFault as LeafWords, row_side, bound_side, wide, open_gap}
use Rattle.certificates.specs.Certificate.{Cause as CauseWords, at_point, not_whole, objective_wide, at_ray, at_leaf, Judged, valued, refused, ClaimOutcome as OutcomeWords, holds, fails}
use Rattle.certificates.specs.Ray.{RayFault as RayWords, ray_row_wide, ray_row_broken, ray_bound_broken, ray_objective_wide, ray_no_better}
use Rattle.certificates.specs.Verdict.{Fault, at_row, at_bound, row_broken, bound_broken, too_wide}
use Rattle.exact_numbers.specs.declared.frac.Frac.{Frac}
use Rattle.exact_numbers.specs.Values.{frac_value}
use Rattle.exact_checks.specs.Terms.{value_found}
use Rattle.certificate_judge.specs.declared.outcome.Cause.{Cause}
use Rattle.certificate_judge.specs.declared.outcome.Cause.TheVariants.{Point, NotWhole, ObjectiveWide, Ray, Leaf}
use Rattle.certificate_judge.specs.declared.outcome.LeafFault.{LeafFault}
use Rattle.certificate_judge.specs.declared.outcome.LeafFault.TheVariants.{RowSide, BoundSide, TooWide, Gap}
use Rattle.certificate_judge.specs.declared.outcome.Outcome.{Outcome}
use Rattle.certificate_judge.specs.declared.outcome.Outcome.TheVariants.{Holds, Fails}
use Rattle.certificate_judge.specs.declared.outcome.PointFault.{PointFault}
use Rattle.certificate_judge.specs.declared.outcome.PointFault.TheVariants.{RowWide, RowBroken, BoundWide, BoundBroken}
use Rattle.certificate_judge.specs.declared.outcome.RayFault.{RayFault}
use Rattle.certificate_judge.specs.declared.outcome.RayFault.TheVariants.{RowWide as RayRowWide, RowBroken as RayRowBroken, BoundBroken as RayBoundBroken, ObjectiveWide as RayObjectiveWide, NoBetter}

abbrev pub point_fault_of : PointFault → Fault
point_fault_of (RowWide i) = too_wide (at_row i)
point_fault_of (RowBroken i) = row_broken i
point_fault_of (BoundWide j) = too_wide (at_bound j)
point_fault_of (BoundBroken j) = bound_broken j

abbrev pub ray_fault_of : RayFault → RayWords
ray_fault_of (RayRowWide i) = ray_row_wide i
ray_fault_of (RayRowBroken i) = ray_row_broken i
ray_fault_of (RayBoundBroken j) = ray_bound_broken j
ray_fault_of RayObjectiveWide = ray_objective_wide
ray_fault_of NoBetter = ray_no_better

-- a fault of leaf k
abbrev pub leaf_fault_of : ℕ → LeafFault → LeafWords
leaf_fault_of k (RowSide i) = row_side k i
leaf_fault_of k (BoundSide j) = bound_side k j
leaf_fault_of k TooWide = wide k
leaf_fault_of k (Gap b) = open_gap k (frac_value b)

abbrev pub cause_of : Cause → CauseWords
cause_of (Point g) = at_point (point_fault_of g)
cause_of (NotWhole j) = not_whole j
cause_of ObjectiveWide = objective_wide
cause_of (Ray g) = at_ray (ray_fault_of g)
cause_of (Leaf k g) = at_leaf (leaf_fault_of k g)

-- the value at a feasible point, or the cause why there is none
abbrev pub judged_of : Result Frac Cause → Judged
judged_of (Ok v) = valued (frac_value v)
judged_of (Err g) = refused (cause_of g)

abbrev pub outcome_of : Outcome → OutcomeWords
outcome_of (Holds v) = holds (value_found v)
outcome_of (Fails g) = fails (cause_of g)

-- the faults that were found; that of a leaf with its number
abbrev pub fault_found : Option (ℕ × LeafFault) → Option LeafWords
fault_found o = option_map (λ (p : ℕ × LeafFault). leaf_fault_of p.0 p.1) o

abbrev pub point_found : Option PointFault → Option Fault
point_found o = option_map point_fault_of o

abbrev pub ray_found : Option RayFault → Option RayWords
ray_found o = option_map ray_fault_of o
