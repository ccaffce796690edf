-- The linear program of a file without fold faults means the problem that the file states.
use Rattle.std.proofs.Common.{◌≡◌, ◌↔◌, ◌∙◌, ℕ, ◌<◌, sym, ap, subst, refl, arith, IsTrue, Bool, true, false, List, Option, Some, None}
use Rattle.std.specs.Prelude.{if◌then◌else◌}
use Rattle.std.proofs.lemmas.Option.{same_Some}
use Rattle.exact_numbers.specs.Rational.{ℚ}
use Rattle.linear_program.specs.Linear.{Interval, Row, Variable, IsFeasible as IsFeasibleProgram, IsInside}
use Rattle.linear_program.specs.Linear.{IsRelaxed as IsRelaxedProgram, form_value, no_row, row_at, row_count, value_at}
use Rattle.linear_program.specs.Linear.{variable_count}
use Rattle.linear_program.proofs.Elements.{elements_at, elements_length}
use Rattle.certificates.specs.Means.{Means}
use Rattle.certificates.specs.Problem.{IsBoundBroken, IsConstraintBroken, IsFeasible, IsNotWhole, IsRelaxed}
use Rattle.certificates.specs.Says.{IsBoundBroken as IsBoundBrokenProgram, IsNotWhole as IsNotWholeProgram, IsRowBroken}
use Rattle.nl_model.specs.File.{File}
use Rattle.nl_model.specs.Rules.{IsFile}
use Rattle.nl_model.specs.FoldFaults.{fold_fault, has_objective, no_such_objective, owners_fault, owners_of}
use Rattle.nl_model.specs.LinearFile.{HasLines, body_form, linear_of, linear_row}
use Rattle.nl_model.specs.Meaning.{HasValueInside, IsFeasible as IsFeasibleFile, IsRelaxed as IsRelaxedFile, body_value, side_of}
use Rattle.nl_model.proofs.Files.{count_lem, variable_lem, same_feasible, same_objective, same_relaxed, same_sense}
use Rattle.nl_model.proofs.Folding.{clean_has_lines}
use Rattle.nl_model.proofs.Formed.{file_formed}
use Rattle.problems.specs.FileProblem.{problem_of}

-- a file without fault has the objective
objective_there : (f : File) (k : ℕ) → fold_fault f k ≡ None → IsTrue (has_objective f k)
unfolding fold_fault
objective_there f k = by (has_objective f k)
  where
    by : (b : Bool) → (if b then owners_fault f.counts.n_var 0 (owners_of f k) else Some (no_such_objective k)) ≡ None → IsTrue b
    by true e = refl
    by false e = absurd (cc)

pub inside_at : (s : Interval) (o : Option ℚ) → HasValueInside s o → (v : ℚ) × (o ≡ Some v) × IsInside s v
inside_at s None h = absurd h
inside_at s (Some v) h = (v, refl, h)

module _ (f : File) (k : ℕ) where
  -- ---- the problem has the file's points
  pub relaxed_points : (xs : List ℚ) → IsRelaxed (problem_of f k) xs ↔ IsRelaxedFile f xs
  relaxed_points xs = (
    λ h. record { bodies = λ i l. let m = h.met i l in subst (HasValueInside (side_of f i)) (sym m.1) m.2; bounds = h.bounds },
    λ h.
        record {
          met = λ i l. inside_at (side_of f i) (body_value f i xs) (h.bodies i l);
          bounds = h.bounds;
        },
  )

  pub feasible_points : (xs : List ℚ) → IsFeasible (problem_of f k) xs ↔ IsFeasibleFile f xs
  feasible_points xs = (
    λ h. record { relaxed = (relaxed_points xs).0 h.relaxed; whole = h.whole },
    λ h. record { relaxed = (relaxed_points xs).1 h.relaxed; whole = h.whole },
  )

  -- ---- rows and variables of its linear program
  pub rows_counted : row_count (linear_of f k) ≡ f.counts.n_con
  unfolding linear_of
  rows_counted = elements_length (linear_row f) 0 f.counts.n_con

  pub row_lem : (i : ℕ) → i < f.counts.n_con → row_at (linear_of f k) i ≡ linear_row f i
  unfolding linear_of
  row_lem i h = elements_at (linear_row f) 0 f.counts.n_con i no_row h ∙ ap (linear_row f) (omega arith)

  bounds : (xs : List ℚ) (j : ℕ) → IsBoundBroken (problem_of f k) xs j ↔ IsBoundBrokenProgram (linear_of f k) xs j
  bounds xs j = (
    λ h. record { within = subst (λ n. j < n) (sym (count_lem f k)) h.within; broken = λ ok. h.broken (subst (λ (v : Variable). IsInside v.bound (value_at xs j)) (variable_lem f k j h.within) ok) },
    λ h.
        let l : j < f.counts.n_var = subst (λ n. j < n) (count_lem f k) h.within in
        record { within = l; broken = λ ok. h.broken (subst (λ (v : Variable). IsInside v.bound (value_at xs j)) (sym (variable_lem f k j l)) ok) },
  )

  whole : (xs : List ℚ) (j : ℕ) → IsNotWhole (problem_of f k) xs j ↔ IsNotWholeProgram (linear_of f k) xs j
  whole xs j = (
    λ h.
        record {
          within = subst (λ n. j < n) (sym (count_lem f k)) h.within;
          asked = subst (λ (v : Variable). IsTrue v.whole) (sym (variable_lem f k j h.within)) h.asked;
          broken = h.broken;
        },
    λ h.
        let l : j < f.counts.n_var = subst (λ n. j < n) (count_lem f k) h.within in
        record { within = l; asked = subst (λ (v : Variable). IsTrue v.whole) (variable_lem f k j l) h.asked; broken = h.broken },
  )

  module _ (lines : HasLines f k) where
    relaxed : (xs : List ℚ) → IsRelaxed (problem_of f k) xs ↔ IsRelaxedProgram (linear_of f k) xs
    relaxed xs = (λ h. (same_relaxed f k lines xs).0 ((relaxed_points xs).0 h), λ h. (relaxed_points xs).1 ((same_relaxed f k lines xs).1 h))

    feasible : (xs : List ℚ) → IsFeasible (problem_of f k) xs ↔ IsFeasibleProgram (linear_of f k) xs
    feasible xs = (λ h. (same_feasible f k lines xs).0 ((feasible_points xs).0 h), λ h. (feasible_points xs).1 ((same_feasible f k lines xs).1 h))

    -- the row of constraint i, at its own number of variables
    row_from : (xs : List ℚ) (i : ℕ) → i < f.counts.n_con → IsInside (row_at (linear_of f k) i).side
        (form_value (row_at (linear_of f k) i).body (variable_count (linear_of f k)) xs)
        → IsInside (side_of f i) (form_value (body_form f i) f.counts.n_var xs)
    row_from xs i l h =
        subst (λ n. IsInside (side_of f i) (form_value (body_form f i) n xs)) (count_lem f k)
        (subst (λ (r : Row). IsInside r.side (form_value r.body (variable_count (linear_of f k)) xs)) (row_lem i l) h)

    row_to : (xs : List ℚ) (i : ℕ) → i < f.counts.n_con → IsInside (side_of f i)
        (form_value (body_form f i) f.counts.n_var xs) → IsInside (row_at (linear_of f k) i).side
        (form_value (row_at (linear_of f k) i).body (variable_count (linear_of f k)) xs)
    row_to xs i l h =
        subst (λ (r : Row). IsInside r.side (form_value r.body (variable_count (linear_of f k)) xs)) (sym (row_lem i l))
        (subst (λ n. IsInside (side_of f i) (form_value (body_form f i) n xs)) (sym (count_lem f k)) h)

    rows : (xs : List ℚ) (i : ℕ) → IsConstraintBroken (problem_of f k) xs i ↔ IsRowBroken (linear_of f k) xs i
    rows xs i = (
      λ h.
          record {
            within = subst (λ n. i < n) (sym rows_counted) h.within;
            broken = λ ok. h.broken (subst (IsInside (side_of f i)) (same_Some _ h.value (sym (lines.bodies i h.within xs) ∙ h.has)) (row_from xs i h.within ok));
          },
      λ h.
          let l : i < f.counts.n_con = subst (λ n. i < n) rows_counted h.within in
          record { within = l; value = form_value (body_form f i) f.counts.n_var xs; has = lines.bodies i l xs; broken = λ ok. h.broken (row_to xs i l ok) },
    )

  pub meant : IsFile f → fold_fault f k ≡ None → Means (linear_of f k) (problem_of f k)
  meant file clean =
      let lines : HasLines f k = clean_has_lines f k (file_formed f file k) clean in
      record {
        constraints = sym rows_counted;
        variables = sym (count_lem f k);
        feasible = feasible lines;
        relaxed = relaxed lines;
        rows = rows lines;
        bounds = bounds;
        whole = whole;
        bodies = λ xs i l. (_, lines.bodies i l xs);
        there = objective_there f k clean;
        sense = sym (same_sense f k);
        value = same_objective f k lines;
      }
