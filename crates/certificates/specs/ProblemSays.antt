-- What a verdict on a linear program says of the problem that the program means.
use Rattle.std.specs.Prelude.{ℕ, ◌<◌, List, [], Option}
use Rattle.exact_numbers.specs.Rational.{ℚ}
use Rattle.linear_program.specs.Linear.{IsInside, Linear, value_at}
use Rattle.certificates.specs.Branch.{LeafFault}
use Rattle.certificates.specs.Certificate.{Certificate, optimal, near, bounded, feasible, infeasible, unbounded, Cause, at_point, not_whole, objective_wide, at_ray, at_leaf, ClaimOutcome, holds, fails}
use Rattle.certificates.specs.LeafSays.{IsLeafDenied}
use Rattle.certificates.specs.Problem.{Problem, IsBoundBroken, IsConstraintBroken, IsConstraintMet, IsFeasible, IsNotWhole, IsRelaxed, IsWithinGap}
use Rattle.certificates.specs.ToldMeaning.{IsToldTrue, told_certificate}
use Rattle.certificates.specs.Verdict.{Place, at_row, at_bound, at_cost, at_objective, at_total, Fault, row_broken, bound_broken, row_side_missing, bound_side_missing, too_wide, Verdict, yes, gap, refused}

-- ---- up to where a point is met
-- constraint i is there, and each before it is met
pub record IsMetBeforeConstraint (p : Problem) (xs : List ℚ) (i : ℕ) : Type 0 where
  pub within : i < p.constraints
  pub met : (h : ℕ) → h < i → IsConstraintMet p xs h

-- variable j is there; each constraint is met, and each variable before it is within its bounds
pub record IsMetBeforeBound (p : Problem) (xs : List ℚ) (j : ℕ) : Type 0 where
  pub within : j < p.variables
  pub met : (i : ℕ) → i < p.constraints → IsConstraintMet p xs i
  pub bounds : (k : ℕ) → k < j → IsInside (p.bound k) (value_at xs k)

-- ---- the verdict on a point and duals
-- what is too wide at a constraint or a bound says that all before it is met; after them the point
-- is relaxed feasible
abbrev pub WidthSays : Problem → List ℚ → Place → Type 0
WidthSays p xs (at_row i) = IsMetBeforeConstraint p xs i
WidthSays p xs (at_bound j) = IsMetBeforeBound p xs j
WidthSays p xs (at_cost j) = IsRelaxed p xs
WidthSays p xs at_objective = IsRelaxed p xs
WidthSays p xs at_total = IsRelaxed p xs

abbrev pub FaultSays : Problem → List ℚ → Fault → Type 0
FaultSays p xs (row_broken i) = IsMetBeforeConstraint p xs i × IsConstraintBroken p xs i
FaultSays p xs (bound_broken j) = IsMetBeforeBound p xs j × IsBoundBroken p xs j
FaultSays p xs (row_side_missing i) = IsRelaxed p xs
FaultSays p xs (bound_side_missing j) = IsRelaxed p xs
FaultSays p xs (too_wide place) = WidthSays p xs place

abbrev pub VerdictSays : Problem → List ℚ → Verdict → Type 0
VerdictSays p xs (yes v) = IsWithinGap p xs v v
VerdictSays p xs (gap v b) = IsWithinGap p xs v b
VerdictSays p xs (refused g) = FaultSays p xs g

-- ---- the verdict on a certificate
-- the point that a certificate gives: 0 everywhere where it gives none
abbrev pub point_in : Certificate → List ℚ
point_in (optimal xs tree) = xs
point_in (near xs b tree) = xs
point_in (bounded v tree) = []
point_in (feasible xs) = xs
point_in (infeasible tree) = []
point_in (unbounded xs ds) = xs

-- where it holds, what is told is true
abbrev pub IsShown : Problem → Certificate → Option ℚ → Type 0
IsShown p c o = IsToldTrue p (point_in c) (told_certificate c o)

-- What a fault of the constraints and bounds at a point says: all before it is met. No other fault
-- comes there: so the line `too wide at objective` has the cause objective_wide alone.
abbrev pub PointDenies : Problem → List ℚ → Fault → Type 0
PointDenies p xs (row_broken i) = IsMetBeforeConstraint p xs i × IsConstraintBroken p xs i
PointDenies p xs (bound_broken j) = IsMetBeforeBound p xs j × IsBoundBroken p xs j
PointDenies p xs (too_wide (at_row i)) = IsMetBeforeConstraint p xs i
PointDenies p xs (too_wide (at_bound j)) = IsMetBeforeBound p xs j
PointDenies p xs other = ⊥

-- it holds at the point that is judged; a claim on a bound or on no feasible point is judged
-- without one
abbrev pub AtPoint : Certificate → (List ℚ → Type 0) → Type 0
AtPoint (optimal xs tree) says = says xs
AtPoint (near xs b tree) says = says xs
AtPoint (bounded v tree) says = ⊥
AtPoint (feasible xs) says = says xs
AtPoint (infeasible tree) says = ⊥
AtPoint (unbounded xs ds) says = says xs

-- what a leaf of a tree over the program f says that does not close: the point, where one is
-- judged, is feasible
abbrev pub LeafSays : Problem → Linear → Certificate → LeafFault → Type 0
LeafSays p f (optimal xs tree) g = IsFeasible p xs × IsLeafDenied p f tree g
LeafSays p f (near xs b tree) g = IsFeasible p xs × IsLeafDenied p f tree g
LeafSays p f (bounded v tree) g = IsLeafDenied p f tree g
LeafSays p f (feasible xs) g = ⊥
LeafSays p f (infeasible tree) g = IsLeafDenied p f tree g
LeafSays p f (unbounded xs ds) g = ⊥

-- What is said where a certificate fails, by its cause. The point is judged before the ray and the
-- leaves: where they fail, it is feasible.
abbrev pub Denies : Problem → Linear → Certificate → Cause → Type 0
Denies p f c (at_point g) = AtPoint c (λ xs. PointDenies p xs g)
Denies p f c (not_whole j) = AtPoint c (λ xs. IsRelaxed p xs × IsNotWhole p xs j)
Denies p f c objective_wide = AtPoint c (IsFeasible p)
Denies p f c (at_ray g) = AtPoint c (IsFeasible p)
Denies p f c (at_leaf g) = LeafSays p f c g

abbrev pub OutcomeSays : Problem → Linear → Certificate → ClaimOutcome → Type 0
OutcomeSays p f c (holds o) = IsShown p c o
OutcomeSays p f c (fails g) = Denies p f c g
