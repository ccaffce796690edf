-- Certificates of a solver's answers (own profile): what each is, the verdict on it, and what it
-- says.
use Rattle.std.specs.Prelude.{◌≡◌, ℕ, ◌^◌, pos, Bool, true, ◌&&◌, ◌||◌, not, ◌==◌, if◌then◌else◌, List, Option, Some, None}
use Rattle.std.specs.Option.{option_or}
use Rattle.exact_numbers.specs.Fits.{fits}
use Rattle.exact_numbers.specs.Rational.{ℚ, zero_ℚ, whole, neg_ℚ}
use Rattle.linear_program.specs.Linear.{Linear, IsFeasible, IsRelaxed, value_at, variable_at, variable_count, row_count}
use Rattle.certificates.specs.Branch.{BranchTree, LeafFault, proof_fault, AreSplitsWhole, AreAllWeights}
use Rattle.certificates.specs.Checked.{is_at_most}
use Rattle.certificates.specs.Points.{Numbers, bounds_of}
use Rattle.certificates.specs.Ray.{RayFault, ray_fault}
use Rattle.certificates.specs.Says.{FaultSays, IsNotWhole}
use Rattle.certificates.specs.Solutions.{IsBound, IsInfeasible, IsNear, IsOptimal, IsSolution, IsUnbounded}
use Rattle.certificates.specs.Verdict.{Fault, too_wide, at_bound, first_fault, row_fault, bound_fault, run_form}

-- an answer with all that is needed to believe it
pub data Certificate : Type 0 where
  optimal : List ℚ → BranchTree → Certificate
  near : List ℚ → ℚ → BranchTree → Certificate
  bounded : ℚ → BranchTree → Certificate
  feasible : List ℚ → Certificate
  infeasible : BranchTree → Certificate
  unbounded : List ℚ → List ℚ → Certificate

-- bounds and planes are on whole variables, and what shows infeasibility does not speak of the
-- objective
abbrev pub IsCertificate : Linear → Certificate → Type 0
IsCertificate f (optimal xs tree) = AreSplitsWhole f tree
IsCertificate f (near xs b tree) = AreSplitsWhole f tree
IsCertificate f (bounded v tree) = AreSplitsWhole f tree
IsCertificate f (feasible xs) = Unit {0}
IsCertificate f (infeasible tree) = AreSplitsWhole f tree × AreAllWeights tree
IsCertificate f (unbounded xs ds) = Unit {0}

-- ---- the verdict
-- why a certificate shows nothing: a row or a bound at the point, a whole variable there, the
-- objective there, the ray, a leaf
pub data Cause : Type 0 where
  at_point : Fault → Cause
  not_whole : ℕ → Cause
  objective_wide : Cause
  at_ray : RayFault → Cause
  at_leaf : LeafFault → Cause

-- the certificate holds, with the value that it has for the objective; or the first cause why not
pub data ClaimOutcome : Type 0 where
  holds : Option ℚ → ClaimOutcome
  fails : Cause → ClaimOutcome

-- a number of 2 ^ 127 or more in size, as some write for no bound
abbrev pub large : ℚ
large = whole (pos (2 ^ 127))

abbrev pub is_large : ℚ → Bool
is_large s = is_at_most large s || is_at_most s (neg_ℚ large)

abbrev pub can_compare : Option ℚ → Bool
can_compare None = true
can_compare (Some s) = fits s || is_large s

-- the sides of the bounds have to fit, or to be so large that their sign decides
unfoldable pub fitting_bound_fault : Linear → Numbers → ℕ → Option Fault
fitting_bound_fault f x j =
    if can_compare (bounds_of f j).lower && can_compare (bounds_of f j).upper
    then bound_fault f x j
    else Some (too_wide (at_bound j))

-- the rows at the point, and then the bounds
unfoldable pub given_fault : Linear → Numbers → Option Fault
given_fault f x =
    option_or (first_fault (row_fault f x) (row_count f))
    (first_fault (fitting_bound_fault f x) (variable_count f))

-- the first whole variable that is not whole at the point
abbrev pub is_whole_number : ℚ → Bool
is_whole_number x = x.bottom == 1

abbrev pub wholeness : Linear → Numbers → ℕ → Option ℕ
wholeness f x j = if (variable_at f j).whole && not (is_whole_number (x j)) then Some j else None

unfoldable pub whole_fault : Linear → Numbers → Option ℕ
whole_fault f x = first_fault (wholeness f x) (variable_count f)

-- the value at the point, where that is feasible; or the first cause why there is none
pub data Judged : Type 0 where
  valued : ℚ → Judged
  refused : Cause → Judged

abbrev pub judged_by : Option Fault → Option ℕ → Option ℚ → Judged
judged_by (Some g) w v = refused (at_point g)
judged_by None (Some j) v = refused (not_whole j)
judged_by None None None = refused objective_wide
judged_by None None (Some v) = valued v

unfoldable pub judged : Linear → List ℚ → Judged
judged f xs =
    judged_by (given_fault f (value_at xs)) (whole_fault f (value_at xs))
    (run_form (variable_count f) f.objective (value_at xs))

abbrev pub unless_leaf : Option LeafFault → Option ℚ → ClaimOutcome
unless_leaf None v = holds v
unless_leaf (Some g) v = fails (at_leaf g)

abbrev pub unless_ray : Option RayFault → ClaimOutcome
unless_ray None = holds None
unless_ray (Some g) = fails (at_ray g)

-- what follows on the point: the leaves are asked for its value, or for a bound, or nothing, or
-- the ray
abbrev pub with_proof : Linear → BranchTree → Judged → ClaimOutcome
with_proof f tree (refused c) = fails c
with_proof f tree (valued v) = unless_leaf (proof_fault f v tree) (Some v)

abbrev pub with_leaves : Option LeafFault → Judged → ClaimOutcome
with_leaves g (refused c) = fails c
with_leaves g (valued v) = unless_leaf g (Some v)

abbrev pub alone : Judged → ClaimOutcome
alone (refused c) = fails c
alone (valued v) = holds (Some v)

abbrev pub with_ray : Option RayFault → Judged → ClaimOutcome
with_ray g (refused c) = fails c
with_ray g (valued v) = unless_ray g

-- the verdict: the point, then the ray or the leaves
unfoldable pub outcome : Linear → Certificate → ClaimOutcome
outcome f (optimal xs tree) = with_proof f tree (judged f xs)
outcome f (near xs b tree) = with_leaves (proof_fault f b tree) (judged f xs)
outcome f (bounded v tree) = unless_leaf (proof_fault f v tree) (Some v)
outcome f (feasible xs) = alone (judged f xs)
outcome f (infeasible tree) = unless_leaf (proof_fault f zero_ℚ tree) None
outcome f (unbounded xs ds) = with_ray (ray_fault f (value_at ds)) (judged f xs)

-- ---- what a certificate shows where it holds
abbrev pub IsShown : Linear → Certificate → Option ℚ → Type 0
IsShown f (optimal xs tree) None = ⊥
IsShown f (optimal xs tree) (Some v) = IsOptimal f xs v
IsShown f (near xs b tree) None = ⊥
IsShown f (near xs b tree) (Some v) = IsNear f xs v b
IsShown f (bounded v tree) o = (o ≡ Some v) × IsBound f v
IsShown f (feasible xs) None = ⊥
IsShown f (feasible xs) (Some v) = IsSolution f xs v
IsShown f (infeasible tree) o = IsInfeasible f
IsShown f (unbounded xs ds) o = IsUnbounded f

-- ---- what a certificate that fails says of its point
abbrev pub PointSays : Linear → List ℚ → Cause → Type 0
PointSays f xs (at_point g) = FaultSays f xs g
PointSays f xs (not_whole j) = IsRelaxed f xs × IsNotWhole f xs j
PointSays f xs objective_wide = IsFeasible f xs
PointSays f xs (at_ray g) = IsFeasible f xs
PointSays f xs (at_leaf g) = IsFeasible f xs

abbrev pub CauseSays : Linear → Certificate → Cause → Type 0
CauseSays f (optimal xs tree) c = PointSays f xs c
CauseSays f (near xs b tree) c = PointSays f xs c
CauseSays f (bounded v tree) c = Unit {0}
CauseSays f (feasible xs) c = PointSays f xs c
CauseSays f (infeasible tree) c = Unit {0}
CauseSays f (unbounded xs ds) c = PointSays f xs c

-- what a verdict says
abbrev pub OutcomeSays : Linear → Certificate → ClaimOutcome → Type 0
OutcomeSays f c (holds v) = IsShown f c v
OutcomeSays f c (fails g) = CauseSays f c g
