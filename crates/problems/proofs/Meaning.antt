-- The linear program of an MPS program means the problem that the program states.
use Rattle.std.proofs.Common.{◌≡◌, ◌∙◌, ◌↔◌, ℕ, zero, suc, ◌+◌, ◌<◌, IsTrue, List, [], ◌∷◌, length, get_or, Some, refl, sym, ap, subst, arith}
use Rattle.std.proofs.lemmas.List.{get_or_default}
use Rattle.std.proofs.lemmas.Option.{same_Some}
use Rattle.exact_numbers.specs.Rational.{ℚ}
use Rattle.linear_program.specs.Linear.{IsInside, RowHolds, Variable, no_row, row_at, row_count, value_at, variable_count, IsFeasible as IsFeasibleProgram, IsRelaxed as IsRelaxedProgram}
use Rattle.certificates.specs.Says.{IsRowBroken, IsBoundBroken as IsBoundBrokenProgram, IsNotWhole as IsNotWholeProgram}
use Rattle.certificates.specs.Problem.{IsBoundBroken, IsConstraintBroken, IsConstraintMet, IsFeasible, IsNotWhole, IsRelaxed}
use Rattle.certificates.specs.Means.{Means}
use Rattle.mps_model.specs.Mps.{Mps, IsMpsFeasible, row_interval, row_value}
use Rattle.mps_program.specs.Program.{constraints, linear_of, linear_row, linear_rows}
use Rattle.mps_program.proofs.LawLemmas.{body_lem, count_lem, feasible_lem, objective_lem, sense_lem, variable_lem}
use Rattle.problems.specs.Problem.{mps_problem, row_of}

-- ---- rows
rows_counted : (m : Mps ℚ) (k : ℕ) (is : List ℕ) → length (linear_rows m k is) ≡ length is
rows_counted m k [] = refl
rows_counted m k (i ∷ is) = ap suc (rows_counted m (suc k) is)

row_there : (m : Mps ℚ) (k : ℕ) (is : List ℕ) (i : ℕ) → i < length is → get_or (linear_rows m k is) i no_row ≡ linear_row m (k + i) (get_or is i 0)
row_there m k [] i h = absurd (omega (arith, h))
row_there m k (r ∷ rs) zero h = ap (λ n. linear_row m n r) (omega arith)
row_there m k (r ∷ rs) (suc i) h = row_there m (suc k) rs i (omega (arith, h)) ∙ ap (λ n. linear_row m n (get_or rs i 0)) (omega arith)

pub constraints_counted : (m : Mps ℚ) → length (constraints m.rows) ≡ row_count (linear_of m)
unfolding linear_of
constraints_counted m = sym (rows_counted m 0 (constraints m.rows))

row_lem : (m : Mps ℚ) (i : ℕ) → i < length (constraints m.rows) → row_at (linear_of m) i ≡ linear_row m i (row_of m.rows i)
unfolding linear_of
row_lem m i h = row_there m 0 (constraints m.rows) i h ∙ ap (λ n. linear_row m n (row_of m.rows i)) (omega arith)

module _ (m : Mps ℚ) (xs : List ℚ) where
  -- constraint i holds
  abbrev Holds : ℕ → Type 0
  Holds i = IsInside (row_interval m (row_of m.rows i)) (row_value m xs (row_of m.rows i))

  row_holds : (i : ℕ) → i < length (constraints m.rows) → Holds i → RowHolds (variable_count (linear_of m)) xs (row_at (linear_of m) i)
  row_holds i l h =
      subst (RowHolds (variable_count (linear_of m)) xs) (sym (row_lem m i l))
      (subst (IsInside (row_interval m (row_of m.rows i))) (sym (body_lem m xs (row_of m.rows i) (variable_count (linear_of m)) (count_lem m))) h)

  holds_row : (i : ℕ) → i < length (constraints m.rows) → RowHolds (variable_count (linear_of m)) xs (row_at (linear_of m) i) → Holds i
  holds_row i l h =
      subst (IsInside (row_interval m (row_of m.rows i))) (body_lem m xs (row_of m.rows i) (variable_count (linear_of m)) (count_lem m))
      (subst (RowHolds (variable_count (linear_of m)) xs) (row_lem m i l) h)

  -- ---- points
  met_row : (i : ℕ) → i < length (constraints m.rows) → IsConstraintMet (mps_problem m) xs i → Holds i
  met_row i l met = subst (IsInside (row_interval m (row_of m.rows i))) (sym (same_Some (row_value m xs (row_of m.rows i)) met.0 met.1)) met.2

  below : {j : ℕ} → j < variable_count (linear_of m) → j < length m.columns
  below {j} l = subst (λ n. j < n) (count_lem m) l

  above : {j : ℕ} → j < length m.columns → j < variable_count (linear_of m)
  above {j} l = subst (λ n. j < n) (sym (count_lem m)) l

  fewer : {i : ℕ} → i < row_count (linear_of m) → i < length (constraints m.rows)
  fewer {i} l = subst (λ n. i < n) (sym (constraints_counted m)) l

  more : {i : ℕ} → i < length (constraints m.rows) → i < row_count (linear_of m)
  more {i} l = subst (λ n. i < n) (constraints_counted m) l

  abbrev IsWithin : ℕ → Variable → Type 0
  IsWithin j v = IsInside v.bound (value_at xs j)

  to_relaxed : IsRelaxed (mps_problem m) xs → IsRelaxedProgram (linear_of m) xs
  to_relaxed h = record {
    rows = λ i d l. subst (RowHolds (variable_count (linear_of m)) xs) (get_or_default (linear_of m).rows i no_row d l) (row_holds i (fewer l) (met_row i (fewer l) (h.met i (fewer l))));
    bounds = λ j l. subst (IsWithin j) (sym (variable_lem m j (below l))) (h.bounds j (below l));
  }

  from_relaxed : IsRelaxedProgram (linear_of m) xs → IsRelaxed (mps_problem m) xs
  from_relaxed h = record {
    met = λ i l. (row_value m xs (row_of m.rows i), refl, holds_row i l (h.rows i no_row (more l)));
    bounds = λ j l. subst (IsWithin j) (variable_lem m j l) (h.bounds j (above l));
  }

  to_feasible : IsFeasible (mps_problem m) xs → IsFeasibleProgram (linear_of m) xs
  to_feasible h = record {
    relaxed = to_relaxed h.relaxed;
    whole = λ j l asked. h.whole j (below l) (subst (λ (v : Variable). IsTrue v.whole) (variable_lem m j (below l)) asked);
  }

  from_feasible : IsFeasibleProgram (linear_of m) xs → IsFeasible (mps_problem m) xs
  from_feasible h = record {
    relaxed = from_relaxed h.relaxed;
    whole = λ j l asked. h.whole j (above l) (subst (λ (v : Variable). IsTrue v.whole) (sym (variable_lem m j l)) asked);
  }

  -- ---- where a point fails
  rows_broken : (i : ℕ) → IsConstraintBroken (mps_problem m) xs i ↔ IsRowBroken (linear_of m) xs i
  rows_broken i = (
    (λ h. record {
      within = more h.within;
      broken = λ ok. h.broken
          (subst (IsInside (row_interval m (row_of m.rows i)))
          (same_Some (row_value m xs (row_of m.rows i)) h.value h.has) (holds_row i h.within ok));
    }),
    (λ h. record { within = fewer h.within; value = row_value m xs (row_of m.rows i); has = refl; broken = λ ok. h.broken (row_holds i (fewer h.within) ok) }),
  )

  bounds_broken : (j : ℕ) → IsBoundBroken (mps_problem m) xs j ↔ IsBoundBrokenProgram (linear_of m) xs j
  bounds_broken j = (
    (λ h. record { within = above h.within; broken = λ ok. h.broken (subst (IsWithin j) (variable_lem m j h.within) ok) }),
    (λ h. record { within = below h.within; broken = λ ok. h.broken (subst (IsWithin j) (sym (variable_lem m j (below h.within))) ok) }),
  )

  not_whole : (j : ℕ) → IsNotWhole (mps_problem m) xs j ↔ IsNotWholeProgram (linear_of m) xs j
  not_whole j = (
    (λ h. record { within = above h.within; asked = subst (λ (v : Variable). IsTrue v.whole) (sym (variable_lem m j h.within)) h.asked; broken = h.broken }),
    (λ h. record { within = below h.within; asked = subst (λ (v : Variable). IsTrue v.whole) (variable_lem m j (below h.within)) h.asked; broken = h.broken }),
  )

pub mps_means : (m : Mps ℚ) → Means (linear_of m) (mps_problem m)
mps_means m = record {
  constraints = constraints_counted m;
  variables = sym (count_lem m);
  feasible = λ xs. (to_feasible m xs, from_feasible m xs);
  relaxed = λ xs. (to_relaxed m xs, from_relaxed m xs);
  rows = rows_broken m;
  bounds = bounds_broken m;
  whole = not_whole m;
  bodies = λ xs i l. (row_value m xs (row_of m.rows i), refl);
  there = refl;
  sense = sym (sense_lem m);
  value = λ xs. ap Some (sym (objective_lem m xs));
}

-- the points that the problem allows are those of the MPS program
pub feasible_points : (m : Mps ℚ) (xs : List ℚ) → IsFeasible (mps_problem m) xs ↔ IsMpsFeasible m xs
feasible_points m xs = ((λ h. (feasible_lem m xs).0 (to_feasible m xs h)), (λ h. from_feasible m xs ((feasible_lem m xs).1 h)))
