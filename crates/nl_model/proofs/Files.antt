-- A file and its linear program have the same feasible assignments and the same objective.
use Rattle.std.proofs.Common.{◌≡◌, ℕ, ◌<◌, ◌≤◌, ◌↔◌, ◌∙◌, sym, ap, refl, subst, arith, IsTrue, Some, List, All}
use Rattle.exact_numbers.specs.Rational.{ℚ, zero_ℚ}
use Rattle.linear_program.specs.Linear.{Row, IsInside, AreOrdered, value_at, form_value, no_variable, variable_at}
use Rattle.linear_program.specs.Linear.{variable_count, RowHolds, IsLinear, IsRelaxed as IsRelaxedProgram}
use Rattle.linear_program.specs.Linear.{IsFeasible as IsFeasibleProgram, objective_value as program_objective}
use Rattle.nl_model.specs.File.{File}
use Rattle.nl_model.proofs.Local.{no_coefficient_beyond}
use Rattle.nl_model.specs.Expressions.{definitions_of, body_of, maximises}
use Rattle.nl_model.specs.Meaning.{file_objective, side_of, HasValueInside, IsRelaxed, IsFeasible}
use Rattle.nl_model.specs.LinearFile.{body_form, objective_form, linear_row, linear_variable, linear_of, HasLines, IsFormedFile}
use Rattle.linear_program.proofs.Elements.{elements_length, elements_at, all_elements, elements_all}

module _ (f : File) (k : ℕ) where
  pub count_lem : variable_count (linear_of f k) ≡ f.counts.n_var
  unfolding linear_of
  count_lem = elements_length (linear_variable f) 0 f.counts.n_var

  pub variable_lem : (j : ℕ) → j < f.counts.n_var → variable_at (linear_of f k) j ≡ linear_variable f j
  unfolding linear_of
  variable_lem j h = elements_at (linear_variable f) 0 f.counts.n_var j no_variable h ∙ ap (linear_variable f) (omega arith)

  pub rows_all : (P : Row → Type 0) → ((i : ℕ) → i < f.counts.n_con → P (linear_row f i)) → All P (linear_of f k).rows
  unfolding linear_of
  rows_all P h = all_elements (linear_row f) P f.counts.n_con h

  pub all_rows : (P : Row → Type 0) → All P (linear_of f k).rows → (i : ℕ) → i < f.counts.n_con → P (linear_row f i)
  unfolding linear_of
  all_rows P h = elements_all (linear_row f) P f.counts.n_con h

  pub same_sense : (linear_of f k).maximise ≡ maximises f k
  unfolding linear_of
  same_sense = refl

  pub same_objective_form : (linear_of f k).objective ≡ objective_form f k
  unfolding linear_of
  same_objective_form = refl

  counted : (P : ℕ → Type 0) → P f.counts.n_var → P (variable_count (linear_of f k))
  counted P h = subst P (sym count_lem) h

  uncounted : (P : ℕ → Type 0) → P (variable_count (linear_of f k)) → P f.counts.n_var
  uncounted P h = subst P count_lem h

  module _ (lines : HasLines f k) (xs : List ℚ) where
    pub same_objective : file_objective f k xs ≡ Some (program_objective (linear_of f k) xs)
    same_objective =
        lines.objective xs
        ∙ sym (ap (λ g. Some (form_value g (variable_count (linear_of f k)) xs)) same_objective_form ∙ ap (λ n. Some (form_value (objective_form f k) n xs)) count_lem)

    relaxed_to : IsRelaxed f xs → IsRelaxedProgram (linear_of f k) xs
    relaxed_to r =
        record {
          rows = rows_all (RowHolds (variable_count (linear_of f k)) xs)
              (λ i h. counted (λ n. IsInside (side_of f i) (form_value (body_form f i) n xs))
              (subst (HasValueInside (side_of f i)) (lines.bodies i h xs) (r.bodies i h)));
          bounds = λ j h. let below = uncounted (λ n. j < n) h in subst (λ v. IsInside v.bound (value_at xs j)) (sym (variable_lem j below)) (r.bounds j below);
        }

    relaxed_from : IsRelaxedProgram (linear_of f k) xs → IsRelaxed f xs
    relaxed_from r =
        record {
          bodies = λ i h. subst (HasValueInside (side_of f i)) (sym (lines.bodies i h xs))
              (uncounted (λ n. IsInside (side_of f i) (form_value (body_form f i) n xs))
              (all_rows (RowHolds (variable_count (linear_of f k)) xs) r.rows i h));
          bounds = λ j h. subst (λ v. IsInside v.bound (value_at xs j)) (variable_lem j h) (r.bounds j (counted (λ n. j < n) h));
        }

    pub same_relaxed : IsRelaxed f xs ↔ IsRelaxedProgram (linear_of f k) xs
    same_relaxed = (relaxed_to, relaxed_from)

    feasible_to : IsFeasible f xs → IsFeasibleProgram (linear_of f k) xs
    feasible_to r =
        record {
          relaxed = relaxed_to r.relaxed;
          whole = λ j h w. let below = uncounted (λ n. j < n) h in r.whole j below (subst (λ v. IsTrue v.whole) (variable_lem j below) w);
        }

    feasible_from : IsFeasibleProgram (linear_of f k) xs → IsFeasible f xs
    feasible_from r =
        record {
          relaxed = relaxed_from r.relaxed;
          whole = λ j h w. r.whole j (counted (λ n. j < n) h) (subst (λ v. IsTrue v.whole) (sym (variable_lem j h)) w);
        }

    pub same_feasible : IsFeasible f xs ↔ IsFeasibleProgram (linear_of f k) xs
    same_feasible = (feasible_to, feasible_from)

  -- what holds of the linear program of each file
  pub linear_lem : IsFormedFile f k → IsLinear (linear_of f k)
  linear_lem formed =
      record {
        ordered = rows_all (λ r. AreOrdered r.side.lower r.side.upper) formed.ordered;
        within = rows_all (λ r. (j : ℕ) → variable_count (linear_of f k) ≤ j → r.body.coefficient j ≡ zero_ℚ)
            (λ i h j g. no_coefficient_beyond f.counts.n_var (definitions_of f) formed.definitions (body_of f i)
            (formed.bodies i h) j (uncounted (λ n. n ≤ j) g));
      }
