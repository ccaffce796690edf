-- What verdicts on a linear program say of a problem that it means.
use Rattle.std.proofs.Common.{◌≡◌, ◌∙◌, inl, inr, ℕ, ◌<◌, sym, ap, subst, refl, arith, List, Option, Some, None, option_map}
use Rattle.exact_numbers.specs.Rational.{ℚ, zero_ℚ}
use Rattle.linear_program.specs.Linear.{Linear, IsFeasible as IsFeasibleProgram, IsInside, IsRelaxed as IsRelaxedProgram, RowHolds, objective_value, row_at, value_at, variable_count}
use Rattle.certificates.specs.Branch.{LeafFault, BranchTree, duals, open_gap, weights, AreSplitsWhole, proof_fault}
use Rattle.certificates.specs.Certificate.{Certificate, optimal, near, bounded, feasible, infeasible, unbounded}
use Rattle.certificates.specs.Certificate.{IsCertificate, Cause, at_point, not_whole, objective_wide, at_ray, at_leaf}
use Rattle.certificates.specs.Certificate.{Judged, valued as judged_valued, refused as judged_refused, judged}
use Rattle.certificates.specs.Certificate.{unless_leaf, with_ray, ClaimOutcome, holds, fails, outcome}
use Rattle.certificates.specs.Certificate.{IsShown as IsShownProgram, PointSays as PointSaysProgram}
use Rattle.certificates.specs.Certificate.{CauseSays as CauseSaysProgram, OutcomeSays as OutcomeSaysProgram}
use Rattle.certificates.specs.LeafSays.{IsLeafDenied, leaf_at as leaf_of}
use Rattle.certificates.specs.Means.{Means}
use Rattle.certificates.specs.Parts.{whole_part}
use Rattle.certificates.specs.Points.{IsBetter, bounds_of}
use Rattle.certificates.specs.Problem.{Problem, IsBestRelaxed, IsBound, IsBroken, IsConstraintMet, IsFeasible, IsNotWhole, IsReached, IsRelaxed, IsSolution, IsWithinGap}
use Rattle.certificates.specs.ProblemSays.{FaultSays, VerdictSays, IsMetBeforeBound, IsMetBeforeConstraint, IsShown, Denies, OutcomeSays, PointDenies}
use Rattle.certificates.specs.Ray.{RayFault, ray_fault}
use Rattle.certificates.specs.Says.{IsMetBeforeBound as IsMetBeforeBoundProgram, IsMetBeforeRow, IsWithinGap as IsWithinGapProgram, FaultSays as FaultSaysProgram, VerdictSays as VerdictSaysProgram}
use Rattle.certificates.specs.Solutions.{IsBound as IsBoundProgram, IsSolution as IsSolutionProgram}
use Rattle.certificates.specs.ToldMeaning.{optimal as told_optimal, within as told_within, bound as told_bound, feasible as told_feasible, infeasible as told_infeasible, unbounded as told_unbounded}
use Rattle.certificates.specs.Verdict.{at_row, at_bound, at_cost, at_objective, at_total, Fault, row_broken}
use Rattle.certificates.specs.Verdict.{bound_broken, row_side_missing, bound_side_missing, too_wide, Verdict, yes, gap}
use Rattle.certificates.specs.Verdict.{refused, verdict}
use Rattle.certificates.proofs.Branches.{branches, infeasible as infeasible_leaf}
use Rattle.certificates.proofs.Broken.{broken_of, inside_or_not}
use Rattle.certificates.proofs.Causes.{CauseHas, IsOpenLeaf, IsPointFault, OutcomeHas, outcome_has}
use Rattle.certificates.proofs.Claims.{infeasible_of, reached_of}
use Rattle.certificates.proofs.LeafGaps.{leaf_denies}
use Rattle.certificates.proofs.Says.{says as verdict_says}
use Rattle.certificates.proofs.Shown.{says as outcome_says}

-- ---- where there is no feasible point or no end, no value is told
abbrev HasNoValue : ClaimOutcome → Type 0
HasNoValue (holds None) = Unit {0}
HasNoValue (holds (Some v)) = ⊥
HasNoValue (fails g) = Unit {0}

abbrev IsValued : Certificate → ClaimOutcome → Type 0
IsValued (optimal xs tree) r = Unit {0}
IsValued (near xs b tree) r = Unit {0}
IsValued (bounded v tree) r = Unit {0}
IsValued (feasible xs) r = Unit {0}
IsValued (infeasible tree) r = HasNoValue r
IsValued (unbounded xs ds) r = HasNoValue r

no_value_leaf : (g : Option LeafFault) → HasNoValue (unless_leaf g None)
no_value_leaf None = tt
no_value_leaf (Some g) = tt

no_value_ray : (g : Option RayFault) (j : Judged) → HasNoValue (with_ray g j)
no_value_ray g (judged_refused c) = tt
no_value_ray None (judged_valued v) = tt
no_value_ray (Some g) (judged_valued v) = tt

valued : (p : Linear) (c : Certificate) → IsValued c (outcome p c)
unfolding outcome
valued p (optimal xs tree) = tt
valued p (near xs b tree) = tt
valued p (bounded v tree) = tt
valued p (feasible xs) = tt
valued p (infeasible tree) = no_value_leaf (proof_fault p zero_ℚ tree)
valued p (unbounded xs ds) = no_value_ray (ray_fault p (value_at ds)) (judged p xs)

module _ (f : Linear) (p : Problem) (means : Means f p) where
  -- ---- values
  reached_by : (xs : List ℚ) (v : ℚ) → (¬ IsBetter f.maximise (objective_value f xs) v) → IsReached p v xs
  reached_by xs v h = reached_of f p means v xs (subst (λ m. ¬ IsBetter m (objective_value f xs) v) (sym means.sense) h)

  pub bound_of : (v : ℚ) → IsBoundProgram f v → IsBound p v
  bound_of v h = record { there = means.there; best = λ xs ok. reached_by xs v (h xs ((means.feasible xs).0 ok)) }

  solution_of : (xs : List ℚ) (v : ℚ) → IsSolutionProgram f xs v → IsSolution p xs v
  solution_of xs v h = record { there = means.there; feasible = (means.feasible xs).1 h.feasible; value = means.value xs ∙ ap Some h.value }

  gap_of : (xs : List ℚ) (v b : ℚ) → IsWithinGapProgram f xs v b → IsWithinGap p xs v b
  gap_of xs v b h =
      record {
        there = means.there;
        relaxed = (means.relaxed xs).1 h.relaxed;
        value = means.value xs ∙ ap Some h.value;
        best = λ zs ok. reached_by zs b (h.best zs ((means.relaxed zs).0 ok));
      }

  beaten_of : (v : ℚ) (xs : List ℚ) → IsFeasibleProgram f xs → IsBetter f.maximise (objective_value f xs) v → IsSolution p xs (objective_value f xs) × IsBetter p.maximises (objective_value f xs) v
  beaten_of v xs ok better = (record { there = means.there; feasible = (means.feasible xs).1 ok; value = means.value xs }, subst (λ m. IsBetter m (objective_value f xs) v) (sym means.sense) better)

  -- ---- up to where a point is met
  constraint_met : (xs : List ℚ) (i : ℕ) → i < p.constraints → RowHolds (variable_count f) xs (row_at f i) → IsConstraintMet p xs i
  constraint_met xs i l inside =
      let b = means.bodies xs i l in
      elim (inside_or_not (p.side i) b.0) [
        | inl ok ↦ (b.0, b.1, ok)
        | inr no_more ↦ absurd (((means.rows xs i).0 (record { within = l; value = b.0; has = b.1; broken = no_more })).broken inside)
      ]

  bound_met : (xs : List ℚ) (j : ℕ) → j < p.variables → IsInside (bounds_of f j) (value_at xs j) → IsInside (p.bound j) (value_at xs j)
  bound_met xs j l inside = elim (inside_or_not (p.bound j) (value_at xs j)) [
    | inl ok ↦ ok
    | inr no_more ↦ absurd (((means.bounds xs j).0 (record { within = l; broken = no_more })).broken inside)
  ]

  before_constraint : (xs : List ℚ) (i : ℕ) → IsMetBeforeRow f xs i → IsMetBeforeConstraint p xs i
  before_constraint xs i h =
      let l : i < p.constraints = subst (λ n. i < n) (sym means.constraints) h.within in
      record { within = l; met = λ k g. constraint_met xs k (omega (arith, g, l)) (h.rows k g) }

  before_bound : (xs : List ℚ) (j : ℕ) → IsMetBeforeBoundProgram f xs j → IsMetBeforeBound p xs j
  before_bound xs j h =
      let l : j < p.variables = subst (λ n. j < n) (sym means.variables) h.within in
      record {
        within = l;
        met = λ i g. constraint_met xs i g (h.rows i (subst (λ n. i < n) means.constraints g));
        bounds = λ k g. bound_met xs k (omega (arith, g, l)) (h.bounds k g);
      }

  -- ---- the verdict on a point and duals
  fault_of_problem : (xs : List ℚ) (g : Fault) → FaultSaysProgram (f) xs g → FaultSays p xs g
  fault_of_problem xs (row_broken i) h = (before_constraint xs i h.0, (means.rows xs i).1 h.1)
  fault_of_problem xs (bound_broken j) h = (before_bound xs j h.0, (means.bounds xs j).1 h.1)
  fault_of_problem xs (row_side_missing i) h = (means.relaxed xs).1 h
  fault_of_problem xs (bound_side_missing j) h = (means.relaxed xs).1 h
  fault_of_problem xs (too_wide (at_row i)) h = before_constraint xs i h
  fault_of_problem xs (too_wide (at_bound j)) h = before_bound xs j h
  fault_of_problem xs (too_wide (at_cost j)) h = (means.relaxed xs).1 h
  fault_of_problem xs (too_wide at_objective) h = (means.relaxed xs).1 h
  fault_of_problem xs (too_wide at_total) h = (means.relaxed xs).1 h

  verdict_of_problem : (xs : List ℚ) (v : Verdict) → VerdictSaysProgram (f) xs v → VerdictSays p xs v
  verdict_of_problem xs (yes v) h = gap_of xs v v h
  verdict_of_problem xs (gap v b) h = gap_of xs v b h
  verdict_of_problem xs (refused g) h = fault_of_problem xs g h

  -- ---- the verdict on a certificate
  shown_of_problem : (c : Certificate) (o : Option ℚ) → IsShownProgram (f) c o → IsValued c (holds o) → IsShown p c o
  shown_of_problem (optimal xs tree) None h w = absurd h
  shown_of_problem (optimal xs tree) (Some v) h w = record { told = told_optimal v; is_told = refl; true_of = (solution_of xs v h.solution, bound_of v h.best) }
  shown_of_problem (near xs b tree) None h w = absurd h
  shown_of_problem (near xs b tree) (Some v) h w = record { told = told_within b v; is_told = refl; true_of = (solution_of xs v h.solution, bound_of b h.best) }
  shown_of_problem (bounded v tree) o h w = record { told = told_bound v; is_told = ap (option_map told_bound) h.0; true_of = bound_of v h.1 }
  shown_of_problem (feasible xs) None h w = absurd h
  shown_of_problem (feasible xs) (Some v) h w = record { told = told_feasible v; is_told = refl; true_of = solution_of xs v h }
  shown_of_problem (infeasible tree) (Some v) h w = absurd w
  shown_of_problem (infeasible tree) None h w = record { told = told_infeasible; is_told = refl; true_of = infeasible_of f p means (λ xs ok. h xs ((means.feasible xs).0 ok)) }
  shown_of_problem (unbounded xs ds) (Some v) h w = absurd w
  shown_of_problem (unbounded xs ds) None h w = record {
    told = told_unbounded;
    is_told = refl;
    true_of = λ v. let b =
        h v in let better = beaten_of v b.0 b.1 b.2 in (b.0, objective_value f b.0, better.0, better.1);
  }

  fault_at : (xs : List ℚ) (g : Fault) → FaultSaysProgram f xs g → IsPointFault g → PointDenies p xs g
  fault_at xs (row_broken i) h w = fault_of_problem xs (row_broken i) h
  fault_at xs (bound_broken j) h w = fault_of_problem xs (bound_broken j) h
  fault_at xs (row_side_missing i) h w = absurd w
  fault_at xs (bound_side_missing j) h w = absurd w
  fault_at xs (too_wide (at_row i)) h w = before_constraint xs i h
  fault_at xs (too_wide (at_bound j)) h w = before_bound xs j h
  fault_at xs (too_wide (at_cost j)) h w = absurd w
  fault_at xs (too_wide at_objective) h w = absurd w
  fault_at xs (too_wide at_total) h w = absurd w

  -- what is said of a point, of each certificate that has it
  feasible_at : (xs : List ℚ) → IsFeasibleProgram (f) xs → IsFeasible p xs
  feasible_at xs h = (means.feasible xs).1 h

  not_whole_at : (xs : List ℚ) (j : ℕ) → PointSaysProgram (f) xs (not_whole j) → IsRelaxed p xs × IsNotWhole p xs j
  not_whole_at xs j h = ((means.relaxed xs).1 h.0, (means.whole xs j).1 h.1)

  -- what is said of a leaf
  pub leaf_at : (tree : BranchTree) (g : LeafFault) → IsOpenLeaf f tree g → IsLeafDenied p f tree g
  unfolding proof_fault
  leaf_at tree g h = leaf_denies p (whole_part f h.0) means zero_ℚ tree g h.1

  cause_of_problem : (c : Certificate) (g : Cause) → CauseSaysProgram (f) c g → CauseHas (f) c g → Denies p f c g
  cause_of_problem (optimal xs tree) (at_point g) h w = fault_at xs g h w.1
  cause_of_problem (optimal xs tree) (not_whole j) h w = not_whole_at xs j h
  cause_of_problem (optimal xs tree) objective_wide h w = feasible_at xs h
  cause_of_problem (optimal xs tree) (at_ray g) h w = feasible_at xs h
  cause_of_problem (optimal xs tree) (at_leaf g) h w = (feasible_at xs h, leaf_at tree g w)
  cause_of_problem (near xs b tree) (at_point g) h w = fault_at xs g h w.1
  cause_of_problem (near xs b tree) (not_whole j) h w = not_whole_at xs j h
  cause_of_problem (near xs b tree) objective_wide h w = feasible_at xs h
  cause_of_problem (near xs b tree) (at_ray g) h w = feasible_at xs h
  cause_of_problem (near xs b tree) (at_leaf g) h w = (feasible_at xs h, leaf_at tree g w)
  cause_of_problem (bounded v tree) (at_point g) h w = absurd w.0
  cause_of_problem (bounded v tree) (not_whole j) h w = absurd w
  cause_of_problem (bounded v tree) objective_wide h w = absurd w
  cause_of_problem (bounded v tree) (at_ray g) h w = absurd w
  cause_of_problem (bounded v tree) (at_leaf g) h w = leaf_at tree g w
  cause_of_problem (feasible xs) (at_point g) h w = fault_at xs g h w.1
  cause_of_problem (feasible xs) (not_whole j) h w = not_whole_at xs j h
  cause_of_problem (feasible xs) objective_wide h w = feasible_at xs h
  cause_of_problem (feasible xs) (at_ray g) h w = feasible_at xs h
  cause_of_problem (feasible xs) (at_leaf g) h w = absurd w
  cause_of_problem (infeasible tree) (at_point g) h w = absurd w.0
  cause_of_problem (infeasible tree) (not_whole j) h w = absurd w
  cause_of_problem (infeasible tree) objective_wide h w = absurd w
  cause_of_problem (infeasible tree) (at_ray g) h w = absurd w
  cause_of_problem (infeasible tree) (at_leaf g) h w = leaf_at tree g w
  cause_of_problem (unbounded xs ds) (at_point g) h w = fault_at xs g h w.1
  cause_of_problem (unbounded xs ds) (not_whole j) h w = not_whole_at xs j h
  cause_of_problem (unbounded xs ds) objective_wide h w = feasible_at xs h
  cause_of_problem (unbounded xs ds) (at_ray g) h w = feasible_at xs h
  cause_of_problem (unbounded xs ds) (at_leaf g) h w = absurd w

  outcome_of_problem : (c : Certificate) (r : ClaimOutcome) → OutcomeSaysProgram (f) c r → IsValued c r → OutcomeHas (f) c r → OutcomeSays p f c r
  outcome_of_problem c (holds v) h w has = shown_of_problem c v h w
  outcome_of_problem c (fails g) h w has = cause_of_problem c g h has

  -- ---- the laws
  pub verdicts : (xs ys : List ℚ) → VerdictSays p xs (verdict f xs ys)
  verdicts xs ys = verdict_of_problem xs (verdict f xs ys) (verdict_says f xs ys)

  pub certificates : (xs ys : List ℚ) (v : ℚ) → verdict f xs ys ≡ yes v → IsBestRelaxed p xs v
  certificates xs ys v h = subst (VerdictSays p xs) h (verdicts xs ys)

  pub outcomes : (c : Certificate) → IsCertificate f c → OutcomeSays p f c (outcome f c)
  outcomes c fine = outcome_of_problem c (outcome f c) (outcome_says f c fine) (valued f c) (outcome_has f c)

  pub bounds : (v : ℚ) (tree : BranchTree) → AreSplitsWhole f tree → proof_fault f v tree ≡ None → IsBound p v
  bounds v tree splits closed = bound_of v (branches f v tree splits closed)

  pub broken_at : ((xs : List ℚ) → ¬ IsRelaxedProgram f xs) → (xs : List ℚ) → IsBroken p xs
  broken_at none xs = broken_of f p means xs (λ ok. none xs ((means.relaxed xs).0 ok))

  pub none_relaxed : (v : ℚ) (ys : List ℚ) → proof_fault f v (weights ys) ≡ None → (xs : List ℚ) → IsBroken p xs
  none_relaxed v ys closed = broken_at (infeasible_leaf f v ys closed)

  -- the gap of a tree that is one leaf of duals is a bound of the problem, whole variables or not
  pub lone_leaf : (ys : List ℚ) (n : ℕ) (b : ℚ) → IsLeafDenied p f (duals ys) (open_gap n b) → (xs : List ℚ) → IsRelaxed p xs → IsReached p b xs
  unfolding leaf_of
  lone_leaf ys n b h xs ok =
      let r : IsRelaxedProgram f xs = (means.relaxed xs).0 ok in
      h.1 xs (record { rows = r.rows; bounds = r.bounds })

-- ---- no objective is too wide at the rows and bounds of a point
pub not_at_objective : (p : Problem) (f : Linear) (c : Certificate) → ¬ Denies p f c (at_point (too_wide at_objective))
not_at_objective p f (optimal xs tree) h = h
not_at_objective p f (near xs b tree) h = h
not_at_objective p f (bounded v tree) h = h
not_at_objective p f (feasible xs) h = h
not_at_objective p f (infeasible tree) h = h
not_at_objective p f (unbounded xs ds) h = h
