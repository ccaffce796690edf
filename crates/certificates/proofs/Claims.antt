-- The claims of a problem in both forms: what is not better is reached, and the other way.
use Rattle.std.proofs.Common.{◌↔◌, ◌∙◌, inl, inr, ℕ, sym, subst, Bool, true, false, List}
use Rattle.std.proofs.lemmas.Option.{same_Some}
use Rattle.exact_numbers.specs.Rational.{ℚ}
use Rattle.exact_numbers.proofs.RationalLaws.{le_or_lt, not_both}
use Rattle.linear_program.specs.Linear.{IsInside, Linear, objective_value}
use Rattle.certificates.specs.Contrary.{IsBetterAt, IsConstraintUnmet, IsEachBeaten, IsNoneBetter, IsNoneFeasible, IsNoneRelaxed}
use Rattle.certificates.specs.Means.{Means}
use Rattle.certificates.specs.Points.{IsAsGood, IsBetter}
use Rattle.certificates.specs.Problem.{Problem, IsBound, IsBroken, IsConstraintBroken, IsInfeasible, IsReached, IsUnbounded}
use Rattle.certificates.proofs.Broken.{broken_of, failed_of, not_feasible, not_relaxed}

-- ---- numbers
as_good_of : (max : Bool) (v w : ℚ) → (¬ IsBetter max w v) → IsAsGood max v w
as_good_of true v w h = elim (le_or_lt w v) [ inl l ↦ l | inr g ↦ absurd (h g) ]
as_good_of false v w h = elim (le_or_lt v w) [ inl l ↦ l | inr g ↦ absurd (h g) ]

not_better : (max : Bool) (v w : ℚ) → IsAsGood max v w → ¬ IsBetter max w v
not_better true v w l g = not_both w v l g
not_better false v w l g = not_both v w l g

-- ---- any problem: each claim gives what is not the case
module _ (p : Problem) where
  none_better : (v : ℚ) (xs : List ℚ) → IsReached p v xs → ¬ IsBetterAt p xs v
  none_better v xs r b = not_better p.maximises v r.0 r.2 (subst (λ w. IsBetter p.maximises w v) (same_Some b.value r.0 (sym b.has ∙ r.1)) b.better)

  pub none_at_all : (v : ℚ) → IsBound p v → IsNoneBetter p v
  none_at_all v h xs ok = none_better v xs (h.best xs ok)

  pub none_feasible : IsInfeasible p → IsNoneFeasible p
  none_feasible h xs = not_feasible p xs (h xs)

  pub none_relaxed : ((xs : List ℚ) → IsBroken p xs) → IsNoneRelaxed p
  none_relaxed h xs = not_relaxed p xs (h xs)

  pub unmet_of : (xs : List ℚ) (i : ℕ) → IsConstraintBroken p xs i → IsConstraintUnmet p xs i
  unmet_of xs i h = record { within = h.within; unmet = λ m. h.broken (subst (IsInside (p.side i)) (same_Some m.0 h.value (sym m.1 ∙ h.has)) m.2) }

  pub each_beaten : IsUnbounded p → IsEachBeaten p
  each_beaten h v = let b = h v in (b.0, b.2.feasible, record { value = b.1; has = b.2.value; better = b.3 })

-- ---- a problem that a linear program means: and the other way
module _ (f : Linear) (p : Problem) (means : Means f p) where
  pub reached_of : (v : ℚ) (xs : List ℚ) → (¬ IsBetter p.maximises (objective_value f xs) v) → IsReached p v xs
  reached_of v xs h = (objective_value f xs, means.value xs, as_good_of p.maximises v (objective_value f xs) h)

  reached_if : (v : ℚ) (xs : List ℚ) → (¬ IsBetterAt p xs v) → IsReached p v xs
  reached_if v xs h = reached_of v xs (λ b. h (record { value = objective_value f xs; has = means.value xs; better = b }))

  pub infeasible_of : IsNoneFeasible p → IsInfeasible p
  infeasible_of h xs = failed_of f p means xs (h xs)

  broken_if : (xs : List ℚ) (i : ℕ) → IsConstraintUnmet p xs i → IsConstraintBroken p xs i
  broken_if xs i h =
      let b = means.bodies xs i h.within in
      record { within = h.within; value = b.0; has = b.1; broken = λ ok. h.unmet (b.0, b.1, ok) }

  unbounded_if : IsEachBeaten p → IsUnbounded p
  unbounded_if h v = let b = h v in (b.0, b.2.value, record { there = means.there; feasible = b.1; value = b.2.has }, b.2.better)

  -- ---- so they are the same
  pub same_bounds : (v : ℚ) → IsBound p v ↔ IsNoneBetter p v
  same_bounds v = (none_at_all p v, λ h. record { there = means.there; best = λ xs ok. reached_if v xs (h xs ok) })

  pub same_infeasible : IsInfeasible p ↔ IsNoneFeasible p
  same_infeasible = (none_feasible p, infeasible_of)

  pub same_relaxed_infeasible : ((xs : List ℚ) → IsBroken p xs) ↔ IsNoneRelaxed p
  same_relaxed_infeasible = (none_relaxed p, λ h xs. broken_of f p means xs (h xs))

  pub same_unbounded : IsUnbounded p ↔ IsEachBeaten p
  same_unbounded = (each_beaten p, unbounded_if)

  pub same_constraints : (xs : List ℚ) (i : ℕ) → IsConstraintBroken p xs i ↔ IsConstraintUnmet p xs i
  same_constraints xs i = (unmet_of p xs i, broken_if xs i)
