-- The MPS program of a scaled program means what the scaled program means.
use Rattle.std.proofs.Common.{◌≡◌, ℕ, zero, suc, ◌<◌, ◌∙◌, sym, ap, ap₂, subst, refl, arith, Bool, true, false, List, length, get_or, ◌||◌, ◌↔◌}
use Rattle.std.proofs.Math.ListN.{get_or-map}
use Rattle.std.proofs.lemmas.List.{get_or_default, length-map}
use Rattle.exact_numbers.specs.Rational.{ℚ, ◌+ℚ◌, ◌-ℚ◌, ◌*ℚ◌, neg_ℚ}
use Rattle.exact_numbers.specs.Sums.{sum_below}
use Rattle.exact_numbers.proofs.RationalLaws.{+ℚ_comm, neg-neg, -ℚ_lem}
use Rattle.exact_numbers.proofs.Adding.{sum_below_same}
use Rattle.linear_program.specs.Linear.{AreOrdered, IsInside, linear_part, value_at, unbounded, no_variable}
use Rattle.mps_model.specs.Mps.{Column, at_row, or_zero, part_of_row, row_value, row_sides, row_interval, column_at}
use Rattle.mps_model.specs.Mps.{column_interval, is_whole_column, has_whole_record, IsMpsFeasible, mps_objective}
use Rattle.mps_model.specs.Mps.{objective_row}
use Rattle.scaled_program.specs.Meaning.{HasOrderedSides, IsScaledFeasible, ScaledHolds, no_scaled_row, scaled_objective, scaled_row_value}
use Rattle.scaled_program.specs.Program.{ScaledProgram, ScaledRow, nonzero, range_of}
use Rattle.scaled_program.specs.ExportedProgram.{rhs_of, kind_of_row, mps_row, with_entry, entries_of, column_entries, mps_of}
use Rattle.scaled_program.proofs.Entries.{nonzero_back, at_row_same, at_row_other, at_row_before, at_row_there, column_objective, column_row, columns_length, column_there}
use Rattle.scaled_program.proofs.ExportedSides.{row_sides_back, column_sides_back, never_whole}

module _ (s : ScaledProgram) where
  columns_count : length (mps_of s).columns ≡ length s.variables
  unfolding mps_of
  columns_count = columns_length s.objective s.rows 0 s.variables

  the_column : (j : ℕ) → j < length s.variables → column_at (mps_of s) j
      ≡ record {
        name = (get_or s.variables j no_variable).name;
        marked = (get_or s.variables j no_variable).whole;
        entries = column_entries s.objective s.rows j;
      }
  unfolding mps_of
  the_column j h = column_there s.objective s.rows 0 j s.variables no_variable h
      ∙ ap (λ i. record {
        name = (get_or s.variables j no_variable).name;
        marked =
            (get_or s.variables j no_variable).whole;
        entries = column_entries s.objective s.rows i;
      }) (omega arith)

  -- the sum of a row over the columns, by its coefficient in each
  by_columns : (xs : List ℚ) (i : ℕ) (c : ℕ → ℚ) → ((j : ℕ) (x : ℚ) → part_of_row i (column_entries s.objective s.rows j) x ≡ c j *ℚ x) →
      row_value (mps_of s) xs i ≡ linear_part c (length s.variables) xs
  unfolding row_value linear_part
  by_columns xs i c e =
      let m = mps_of s in
      ap (λ n. sum_below (λ j. part_of_row i (column_at m j).entries (value_at xs j)) n) columns_count
      ∙ sum_below_same (λ j. part_of_row i (column_at m j).entries (value_at xs j)) (λ j. c j *ℚ value_at xs j) (length s.variables)
      (λ j h. ap (λ (c : Column ℚ). part_of_row i c.entries (value_at xs j)) (the_column j h) ∙ e j (value_at xs j))

  pub objective_sum : (xs : List ℚ) → row_value (mps_of s) xs 0 ≡ linear_part s.objective.coefficient (length s.variables) xs
  objective_sum xs = by_columns xs 0 s.objective.coefficient (λ j x. column_objective s.objective s.rows j x)

  pub row_sum : (xs : List ℚ) (k : ℕ) → k < length s.rows → row_value (mps_of s) xs (suc k) ≡ scaled_row_value s xs k
  row_sum xs k h = by_columns xs (suc k) (get_or s.rows k no_scaled_row).coefficient (λ j x. column_row s.objective s.rows j x k no_scaled_row h)

  pub row_sides_are : (k : ℕ) → k < length s.rows → AreOrdered (get_or s.rows k no_scaled_row).side.lower
      (get_or s.rows k no_scaled_row).side.upper → row_interval (mps_of s) (suc k) ≡ (get_or s.rows k no_scaled_row).side
  unfolding mps_of
  row_sides_are k h o =
      let r = get_or s.rows k no_scaled_row in
      let g = λ (r : ScaledRow). nonzero (rhs_of r.side.lower r.side.upper) in
      let kind = ap (λ r. r.kind) (get_or-map mps_row s.rows k no_scaled_row) in
      let rhs = ap or_zero (at_row_other (suc k) 0 (nonzero (neg_ℚ s.objective.constant)) (entries_of g 1 s.rows)
      (λ e. omega arith) ∙ at_row_there g s.rows (suc k) 1 k no_scaled_row (omega arith) h)
      ∙ nonzero_back (rhs_of r.side.lower r.side.upper) in
      let range = at_row_there (λ r. range_of r.side.lower r.side.upper) s.rows (suc k) 1 k no_scaled_row (omega arith) h in
      ap (λ t. row_sides t (or_zero (at_row (suc k) (with_entry 0 (nonzero (neg_ℚ s.objective.constant))
      (entries_of g 1 s.rows)))) (at_row (suc k) (entries_of (λ r. range_of r.side.lower r.side.upper) 1
      s.rows))) kind
      ∙ ap₂ (row_sides (kind_of_row r.side.lower r.side.upper)) rhs range
      ∙ row_sides_back r.side.lower r.side.upper o

  pub objective_is : (xs : List ℚ) → mps_objective (mps_of s) xs ≡ scaled_objective s xs
  unfolding mps_of objective_row
  objective_is xs =
      let g = λ (r : ScaledRow). nonzero (rhs_of r.side.lower r.side.upper) in
      let rhs = ap or_zero (at_row_same 0 0 (nonzero (neg_ℚ s.objective.constant)) (entries_of g 1 s.rows) refl
      (at_row_before g s.rows 0 1 (omega arith))) ∙ nonzero_back (neg_ℚ s.objective.constant) in
      ap₂ (λ v b. v -ℚ b) (objective_sum xs) rhs
      ∙ -ℚ_lem (linear_part s.objective.coefficient (length s.variables) xs) (neg_ℚ s.objective.constant)
      ∙ ap (λ v. linear_part s.objective.coefficient (length s.variables) xs +ℚ v) (neg-neg s.objective.constant)
      ∙ +ℚ_comm (linear_part s.objective.coefficient (length s.variables) xs) s.objective.constant

  bounds_are : (j : ℕ) → j < length s.variables → column_interval (mps_of s) j ≡ (get_or s.variables j no_variable).bound
  unfolding mps_of
  bounds_are j h = column_sides_back s.variables j 0 j no_variable (omega arith) h

  no_record : (j : ℕ) → has_whole_record j (mps_of s).bounds ≡ false
  unfolding mps_of
  no_record j = never_whole j 0 s.variables

  whole_is : (j : ℕ) → j < length s.variables → is_whole_column (mps_of s) j ≡ (get_or s.variables j no_variable).whole
  whole_is j h = ap₂ (λ (c : Column ℚ) b. c.marked || b) (the_column j h) (no_record j) ∙ or_nothing (get_or s.variables j no_variable).whole
    where
      or_nothing : (b : Bool) → (b || false) ≡ b
      or_nothing true = refl
      or_nothing false = refl

  rows_count : length (mps_of s).rows ≡ suc (length s.rows)
  unfolding mps_of
  rows_count = ap suc (length-map s.rows mps_row)

  first_kind : row_interval (mps_of s) 0 ≡ unbounded
  unfolding mps_of
  first_kind = refl

pub feasible_there : (s : ScaledProgram) (xs : List ℚ) → HasOrderedSides s → IsMpsFeasible (mps_of s) xs → IsScaledFeasible s xs
feasible_there s xs o h =
    let m = mps_of s in
    record {
      rows = λ k d l.
          let e = row_sides_are s k l (o k no_scaled_row l) in
          let held = h.rows (suc k) (omega (arith, rows_count s)) in
          subst (λ r. ScaledHolds (length s.variables) xs r) (get_or_default s.rows k no_scaled_row d l)
          (subst (λ v. IsInside (get_or s.rows k no_scaled_row).side v) (row_sum s xs k l)
          (subst (λ t. IsInside t (row_value m xs (suc k))) e held));
      bounds = λ j l. subst (λ t. IsInside t (value_at xs j)) (bounds_are s j l) (h.bounds j (omega (arith, columns_count s)));
      whole = λ j l t. h.whole j (omega (arith, columns_count s)) (whole_is s j l ∙ t);
    }

by_row : (s : ScaledProgram) (xs : List ℚ) → HasOrderedSides s → IsScaledFeasible s xs → (i : ℕ) → i < suc (length s.rows) → IsInside (row_interval (mps_of s) i) (row_value (mps_of s) xs i)
by_row s xs o h zero l = subst (λ t. IsInside t (row_value (mps_of s) xs 0)) (sym (first_kind s)) (record { above = tt; below = tt })
by_row s xs o h (suc k) l =
    let lt : k < length s.rows = omega arith in
    subst (λ t. IsInside t (row_value (mps_of s) xs (suc k))) (sym (row_sides_are s k lt (o k no_scaled_row lt)))
    (subst (λ v. IsInside (get_or s.rows k no_scaled_row).side v) (sym (row_sum s xs k lt)) (h.rows k no_scaled_row lt))

pub feasible_back : (s : ScaledProgram) (xs : List ℚ) → HasOrderedSides s → IsScaledFeasible s xs → IsMpsFeasible (mps_of s) xs
feasible_back s xs o h =
    record {
      rows = λ i l. by_row s xs o h i (omega (arith, rows_count s));
      bounds = λ j l.
          let lt : j < length s.variables = omega (arith, columns_count s) in
          subst (λ t. IsInside t (value_at xs j)) (sym (bounds_are s j lt)) (h.bounds j lt);
      whole = λ j l t.
          let lt : j < length s.variables = omega (arith, columns_count s) in
          h.whole j lt (sym (whole_is s j lt) ∙ t);
    }

pub feasible_same : (s : ScaledProgram) (xs : List ℚ) → HasOrderedSides s → IsMpsFeasible (mps_of s) xs ↔ IsScaledFeasible s xs
feasible_same s xs o = (feasible_there s xs o, feasible_back s xs o)

pub sense_same : (s : ScaledProgram) → (mps_of s).maximise ≡ s.maximise
unfolding mps_of
sense_same s = refl
