-- The claims of the problem that a file states, in the words of the file's own meaning.
use Rattle.std.proofs.Common.{◌≡◌, ◌↔◌, ℕ, ◌<◌, sym, subst, refl, Bool, true, false, List, Option, Some, None}
use Rattle.exact_numbers.specs.Rational.{ℚ}
use Rattle.certificates.specs.Contrary.{IsBetterAt, IsConstraintUnmet}
use Rattle.certificates.specs.Points.{IsBetter}
use Rattle.certificates.specs.Problem.{IsBound, IsBroken, IsConstraintBroken, IsInfeasible, IsUnbounded}
use Rattle.certificates.proofs.Claims.{each_beaten, none_at_all, none_feasible, none_relaxed, same_bounds, same_constraints, same_infeasible, same_relaxed_infeasible, same_unbounded, unmet_of}
use Rattle.nl_model.specs.File.{File}
use Rattle.nl_model.specs.Rules.{IsFile}
use Rattle.nl_model.specs.Expressions.{maximises}
use Rattle.nl_model.specs.FoldFaults.{fold_fault}
use Rattle.nl_model.specs.LinearFile.{linear_of}
use Rattle.nl_model.specs.Meaning.{HasValueInside, IsBetterValue, IsFeasible as IsFeasibleFile, IsRelaxed as IsRelaxedFile, body_value, file_objective, side_of}
use Rattle.problems.specs.FileProblem.{problem_of}
use Rattle.problems.proofs.Files.{feasible_points, inside_at, meant, relaxed_points}

-- a better value is there and a better number, and the other way
record IsBetterNumber (max : Bool) (o : Option ℚ) (v : ℚ) : Type 0 where
  number : ℚ
  has : o ≡ Some number
  better : IsBetter max number v

better_number : (max : Bool) (o : Option ℚ) (v : ℚ) → IsBetterValue max o (Some v) → IsBetterNumber max o v
better_number true None v h = absurd h
better_number false None v h = absurd h
better_number true (Some w) v h = record { number = w; has = refl; better = h }
better_number false (Some w) v h = record { number = w; has = refl; better = h }

better_value : (max : Bool) (w v : ℚ) → IsBetter max w v → IsBetterValue max (Some w) (Some v)
better_value true w v h = h
better_value false w v h = h

module _ (f : File) (k : ℕ) where
  abbrev IsBetterThan : List ℚ → ℚ → Type 0
  IsBetterThan xs v = IsBetterValue (maximises f k) (file_objective f k xs) (Some v)

  better_at : (xs : List ℚ) (v : ℚ) → IsBetterThan xs v → IsBetterAt (problem_of f k) xs v
  better_at xs v h = let n = better_number (maximises f k) (file_objective f k xs) v h in record { value = n.number; has = n.has; better = n.better }

  better_than : (xs : List ℚ) (v : ℚ) → IsBetterAt (problem_of f k) xs v → IsBetterThan xs v
  better_than xs v h = subst (λ o. IsBetterValue (maximises f k) o (Some v)) (sym h.has) (better_value (maximises f k) h.value v h.better)

  unmet : (xs : List ℚ) (i : ℕ) → IsConstraintUnmet (problem_of f k) xs i → (i < f.counts.n_con) × (¬ HasValueInside (side_of f i) (body_value f i xs))
  unmet xs i h = (h.within, λ ok. h.unmet (inside_at (side_of f i) (body_value f i xs) ok))

  -- ---- in any file
  pub no_better : (v : ℚ) → IsBound (problem_of f k) v → (xs : List ℚ) → IsFeasibleFile f xs → ¬ IsBetterThan xs v
  no_better v h xs ok b = none_at_all (problem_of f k) v h xs ((feasible_points f k xs).1 ok) (better_at xs v b)

  pub no_feasible : IsInfeasible (problem_of f k) → (xs : List ℚ) → ¬ IsFeasibleFile f xs
  no_feasible h xs ok = none_feasible (problem_of f k) h xs ((feasible_points f k xs).1 ok)

  pub no_relaxed : ((xs : List ℚ) → IsBroken (problem_of f k) xs) → (xs : List ℚ) → ¬ IsRelaxedFile f xs
  no_relaxed h xs ok = none_relaxed (problem_of f k) h xs ((relaxed_points f k xs).1 ok)

  pub always_better : IsUnbounded (problem_of f k) → (v : ℚ) → (xs : List ℚ) × IsFeasibleFile f xs × IsBetterThan xs v
  always_better h v = let b = each_beaten (problem_of f k) h v in (b.0, (feasible_points f k b.0).0 b.1, better_than b.0 v b.2)

  pub not_inside : (xs : List ℚ) (i : ℕ) → IsConstraintBroken (problem_of f k) xs i → (i < f.counts.n_con) × (¬ HasValueInside (side_of f i) (body_value f i xs))
  not_inside xs i h = unmet xs i (unmet_of (problem_of f k) xs i h)

  -- ---- in a file that folds also the other way
  module _ (file : IsFile f) (clean : fold_fault f k ≡ None) where
    pub file_bounds : (v : ℚ) → IsBound (problem_of f k) v ↔ ((xs : List ℚ) → IsFeasibleFile f xs → ¬ IsBetterThan xs v)
    file_bounds v = (
      no_better v,
      λ h. (same_bounds (linear_of f k) (problem_of f k) (meant f k file clean) v).1 (λ xs ok b. h xs ((feasible_points f k xs).0 ok) (better_than xs v b)),
    )

    pub file_infeasible : IsInfeasible (problem_of f k) ↔ ((xs : List ℚ) → ¬ IsFeasibleFile f xs)
    file_infeasible = (no_feasible, λ h. (same_infeasible (linear_of f k) (problem_of f k) (meant f k file clean)).1 (λ xs ok. h xs ((feasible_points f k xs).0 ok)))

    pub file_relaxed : ((xs : List ℚ) → IsBroken (problem_of f k) xs) ↔ ((xs : List ℚ) → ¬ IsRelaxedFile f xs)
    file_relaxed = (no_relaxed, λ h. (same_relaxed_infeasible (linear_of f k) (problem_of f k) (meant f k file clean)).1 (λ xs ok. h xs ((relaxed_points f k xs).0 ok)))

    pub file_unbounded : IsUnbounded (problem_of f k) ↔ ((v : ℚ) → (xs : List ℚ) × IsFeasibleFile f xs × IsBetterThan xs v)
    file_unbounded = (
      always_better,
      λ h. (same_unbounded (linear_of f k) (problem_of f k) (meant f k file clean)).1 (λ v. let b = h v in (b.0, (feasible_points f k b.0).1 b.1, better_at b.0 v b.2)),
    )

    pub file_constraints : (xs : List ℚ) (i : ℕ) → IsConstraintBroken (problem_of f k) xs i ↔ ((i < f.counts.n_con) × (¬ HasValueInside (side_of f i) (body_value f i xs)))
    file_constraints xs i = (
      not_inside xs i,
      λ h.
          (same_constraints (linear_of f k) (problem_of f k) (meant f k file clean) xs i).1
          (record { within = h.0; unmet = λ m. h.1 (subst (HasValueInside (side_of f i)) (sym m.1) m.2) }),
    )
