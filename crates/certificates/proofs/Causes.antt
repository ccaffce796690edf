-- Which causes a certificate can fail by, and what each has.
use Rattle.std.proofs.Common.{◌≡◌, ℕ, refl, Bool, true, false, List, Option, Some, None}
use Rattle.std.specs.Prelude.{IfSome, if◌then◌else◌, ◌&&◌}
use Rattle.exact_numbers.specs.Rational.{ℚ, zero_ℚ}
use Rattle.linear_program.specs.Linear.{Interval, Linear, value_at, variable_count, row_at, row_count}
use Rattle.certificates.specs.Branch.{BranchTree, LeafFault, proof_fault}
use Rattle.certificates.specs.Certificate.{Certificate, optimal, near, bounded, feasible, infeasible, unbounded, Cause}
use Rattle.certificates.specs.Certificate.{at_point, not_whole, objective_wide, at_ray, at_leaf, Judged}
use Rattle.certificates.specs.Certificate.{valued as judged_valued, refused as judged_refused, judged, judged_by}
use Rattle.certificates.specs.Certificate.{given_fault, whole_fault, fitting_bound_fault, can_compare, unless_leaf}
use Rattle.certificates.specs.Certificate.{unless_ray, with_proof, with_leaves, with_ray, alone, ClaimOutcome, holds}
use Rattle.certificates.specs.Certificate.{fails, outcome}
use Rattle.certificates.specs.Points.{Numbers, bounds_of}
use Rattle.certificates.specs.Ray.{RayFault, ray_fault}
use Rattle.certificates.specs.Verdict.{Fault, row_broken, bound_broken, too_wide, at_row, at_bound, first_fault, row_fault, row_check, bound_fault, run_form, sides_fit, is_inside}
use Rattle.certificates.proofs.DualFaults.{both_say, first_says}
use Rattle.certificates.specs.ProblemSays.{AtPoint}

-- ---- at a point: its rows and bounds
abbrev pub IsPointFault : Fault → Type 0
IsPointFault (row_broken i) = Unit {0}
IsPointFault (bound_broken j) = Unit {0}
IsPointFault (too_wide (at_row i)) = Unit {0}
IsPointFault (too_wide (at_bound j)) = Unit {0}
IsPointFault other = ⊥

row_kind : (i : ℕ) (s : Interval) (o : Option ℚ) → IfSome (row_check i s o) IsPointFault
row_kind i s None = tt
row_kind i s (Some v) = by (sides_fit s) (is_inside v s)
  where
    by : (a b : Bool) → IfSome (if a then (if b then None else Some (row_broken i)) else Some (too_wide (at_row i))) IsPointFault
    by true true = tt
    by true false = tt
    by false b = tt

bound_kind : (p : Linear) (x : Numbers) (j : ℕ) → IfSome (fitting_bound_fault p x j) IsPointFault
unfolding fitting_bound_fault bound_fault
bound_kind p x j = by (can_compare (bounds_of p j).lower && can_compare (bounds_of p j).upper) (is_inside (x j) (bounds_of p j))
  where
    by : (a b : Bool) → IfSome (if a then (if b then None else Some (bound_broken j)) else Some (too_wide (at_bound j))) IsPointFault
    by true true = tt
    by true false = tt
    by false b = tt

row_fault_kind : (p : Linear) (x : Numbers) (i : ℕ) → IfSome (row_fault p x i) IsPointFault
unfolding row_fault
row_fault_kind p x i = row_kind i (row_at p i).side (run_form (variable_count p) (row_at p i).body x)

given_kind : (p : Linear) (x : Numbers) → IfSome (given_fault p x) IsPointFault
unfolding given_fault
given_kind p x =
    both_say IsPointFault (first_fault (row_fault p x) (row_count p)) (first_fault (fitting_bound_fault p x) (variable_count p))
    (first_says IsPointFault (row_fault p x) (row_count p) (λ i l none. row_fault_kind p x i))
    (λ none. first_says IsPointFault (fitting_bound_fault p x) (variable_count p) (λ j l none. bound_kind p x j))

-- ---- a point is refused by what is judged at it
abbrev JudgedKind : Judged → Type 0
JudgedKind (judged_refused (at_point g)) = IsPointFault g
JudgedKind (judged_refused (not_whole j)) = Unit {0}
JudgedKind (judged_refused objective_wide) = Unit {0}
JudgedKind (judged_refused (at_ray g)) = ⊥
JudgedKind (judged_refused (at_leaf g)) = ⊥
JudgedKind (judged_valued v) = Unit {0}

judged_kind : (p : Linear) (xs : List ℚ) → JudgedKind (judged p xs)
unfolding judged
judged_kind p xs = by (given_fault p (value_at xs)) (whole_fault p (value_at xs)) (run_form (variable_count p) p.objective (value_at xs)) (given_kind p (value_at xs))
  where
    by : (g : Option Fault) (w : Option ℕ) (o : Option ℚ) → IfSome g IsPointFault → JudgedKind (judged_by g w o)
    by (Some g) w o h = h
    by None (Some j) o h = tt
    by None None None h = tt
    by None None (Some v) h = tt

-- ---- what each cause has
-- the leaf is the first that does not close, for some value that is to be met
abbrev pub IsOpenLeaf : Linear → BranchTree → LeafFault → Type 0
IsOpenLeaf p tree g = (v : ℚ) × (proof_fault p v tree ≡ Some g)

abbrev pub LeafCause : Linear → Certificate → LeafFault → Type 0
LeafCause p (optimal xs tree) g = IsOpenLeaf p tree g
LeafCause p (near xs b tree) g = IsOpenLeaf p tree g
LeafCause p (bounded v tree) g = IsOpenLeaf p tree g
LeafCause p (feasible xs) g = ⊥
LeafCause p (infeasible tree) g = IsOpenLeaf p tree g
LeafCause p (unbounded xs ds) g = ⊥

abbrev pub HasPoint : Certificate → Type 0
HasPoint c = AtPoint c (λ xs. Unit {0})

abbrev pub CauseHas : Linear → Certificate → Cause → Type 0
CauseHas p c (at_point g) = HasPoint c × IsPointFault g
CauseHas p c (not_whole j) = HasPoint c
CauseHas p c objective_wide = HasPoint c
CauseHas p c (at_ray g) = HasPoint c
CauseHas p c (at_leaf g) = LeafCause p c g

abbrev pub OutcomeHas : Linear → Certificate → ClaimOutcome → Type 0
OutcomeHas p c (holds o) = Unit {0}
OutcomeHas p c (fails g) = CauseHas p c g

refused_has : (p : Linear) (c : Certificate) → HasPoint c → (g : Cause) → JudgedKind (judged_refused g) → CauseHas p c g
refused_has p c at (at_point g) h = (at, h)
refused_has p c at (not_whole j) h = at
refused_has p c at objective_wide h = at
refused_has p c at (at_ray g) h = absurd h
refused_has p c at (at_leaf g) h = absurd h

leaf_has : (p : Linear) (c : Certificate) (tree : BranchTree) (v : ℚ) (o : Option ℚ) → ((g : LeafFault) → IsOpenLeaf p tree g → LeafCause p c g) → OutcomeHas p c (unless_leaf (proof_fault p v tree) o)
leaf_has p c tree v o to = by (proof_fault p v tree) refl
  where
    by : (r : Option LeafFault) → proof_fault p v tree ≡ r → OutcomeHas p c (unless_leaf r o)
    by None e = tt
    by (Some g) e = to g (v, e)

ray_has : (p : Linear) (c : Certificate) → HasPoint c → (r : Option RayFault) → OutcomeHas p c (unless_ray r)
ray_has p c at None = tt
ray_has p c at (Some g) = at

judged_has : (p : Linear) (c : Certificate) (xs : List ℚ) (after : Judged → ClaimOutcome)
    → ((g : Cause) → after (judged_refused g) ≡ fails g) → HasPoint c
    → ((v : ℚ) → OutcomeHas p c (after (judged_valued v))) → OutcomeHas p c (after (judged p xs))
judged_has p c xs after none at some = by (judged p xs) (judged_kind p xs)
  where
    by : (j : Judged) → JudgedKind j → OutcomeHas p c (after j)
    by (judged_refused g) h = rw (none g) (refused_has p c at g h)
    by (judged_valued v) h = some v

pub outcome_has : (p : Linear) (c : Certificate) → OutcomeHas p c (outcome p c)
unfolding outcome
outcome_has p (optimal xs tree) = judged_has p (optimal xs tree) xs (with_proof p tree) (λ g. refl) tt (λ v. leaf_has p (optimal xs tree) tree v (Some v) (λ g h. h))
outcome_has p (near xs b tree) = judged_has p (near xs b tree) xs (with_leaves (proof_fault p b tree)) (λ g. refl) tt (λ v. leaf_has p (near xs b tree) tree b (Some v) (λ g h. h))
outcome_has p (bounded v tree) = leaf_has p (bounded v tree) tree v (Some v) (λ g h. h)
outcome_has p (feasible xs) = judged_has p (feasible xs) xs alone (λ g. refl) tt (λ v. tt)
outcome_has p (infeasible tree) = leaf_has p (infeasible tree) tree zero_ℚ None (λ g h. h)
outcome_has p (unbounded xs ds) = judged_has p (unbounded xs ds) xs (with_ray (ray_fault p (value_at ds))) (λ g. refl) tt (λ v. ray_has p (unbounded xs ds) tt (ray_fault p (value_at ds)))
