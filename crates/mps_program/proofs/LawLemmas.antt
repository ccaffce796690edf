-- The linear program means what the program means.
use Rattle.std.proofs.Common.{◌≡◌, ℕ, suc, ◌<◌, ◌≤◌, ◌∙◌, sym, ap, ap₂, refl, subst, arith, Bool, true, false, IsTrue}
use Rattle.std.proofs.Common.{cond, nat_eq, List, [], ◌∷◌, length, get_or, All, Option, Some, None, ⊎_elim, ◌↔◌}
use Rattle.std.proofs.lemmas.Bool.{cases_Bool}
use Rattle.std.proofs.lemmas.List.{get_or_past}
use Rattle.std.proofs.lemmas.List.Elements.{All-nil, All-cons, All-head, All-tail}
use Rattle.exact_numbers.specs.Rational.{ℚ, zero_ℚ, one_ℚ, ◌+ℚ◌, ◌*ℚ◌, neg_ℚ}
use Rattle.exact_numbers.specs.Sums.{sum_over}
use Rattle.exact_numbers.proofs.RationalLaws.{zero-+ℚ, +ℚ_comm, -ℚ_lem, zero-*ℚ, *ℚ_one, +ℚ-*ℚ}
use Rattle.exact_numbers.proofs.Adding.{sum_below_same}
use Rattle.linear_program.specs.Elements.{elements_from}
use Rattle.linear_program.specs.Linear.{Row, Variable, IsInside, AreOrdered, value_at, linear_part, form_value}
use Rattle.linear_program.specs.Linear.{no_variable, variable_at, variable_count, RowHolds, IsFeasible, objective_value}
use Rattle.linear_program.specs.Linear.{IsLinear}
use Rattle.linear_program.proofs.Elements.{elements_length, elements_at}
use Rattle.mps_model.specs.declared.kinds.RowKind.{RowKind}
use Rattle.mps_model.specs.declared.kinds.RowKind.TheVariants.{N}
use Rattle.mps_model.specs.Mps.{Entry, Mps, no_mps_row, no_column, column_at, part_of_row, row_value, at_row, rhs_at, row_sides, row_interval, objective_row, mps_objective, IsMpsFeasible}
use Rattle.mps_program.specs.Program.{is_bounded_kind, is_constraint, constraints, coefficient_at, row_form, objective_form, linear_row, linear_rows, linear_variable, linear_of}
use Rattle.mps_program.proofs.OrderLemmas.{IsRising, row_rising}
use Rattle.mps_program.proofs.PlaceLemmas.{all_places, at_places}

-- ---- values
-- the coefficient times x is the sum of the entries times x
part_times : (i : ℕ) (es : List (Entry ℚ)) (x : ℚ) → part_of_row i es one_ℚ *ℚ x ≡ part_of_row i es x
unfolding part_of_row sum_over
part_times i [] x = zero-*ℚ x
part_times i (e ∷ es) x = +ℚ-*ℚ (cond (nat_eq e.row i) (e.value *ℚ one_ℚ) zero_ℚ) (part_of_row i es one_ℚ) x ∙ ap₂ ◌+ℚ◌ (one (nat_eq e.row i)) (part_times i es x)
  where
    one : (b : Bool) → cond b (e.value *ℚ one_ℚ) zero_ℚ *ℚ x ≡ cond b (e.value *ℚ x) zero_ℚ
    one true = ap (λ v. v *ℚ x) (*ℚ_one e.value)
    one false = zero-*ℚ x

-- nothing stands past the last column
pub no_part : (i : ℕ) → part_of_row i [] one_ℚ ≡ zero_ℚ
unfolding part_of_row sum_over
no_part i = refl

pub past_columns : (m : Mps ℚ) (i j : ℕ) → length m.columns ≤ j → coefficient_at m i j ≡ zero_ℚ
past_columns m i j h = ap (λ (c : _). part_of_row i c.entries one_ℚ) (get_or_past m.columns j no_column h) ∙ no_part i

-- a row that is no constraint has no sides
pub free_row : (kind : RowKind) (b : ℚ) (range : Option ℚ) (x : ℚ) → is_bounded_kind kind ≡ false → IsInside (row_sides kind b range) x
free_row N b range x e = record { above = tt; below = tt }
free_row k b range x e = let r = e in cc

-- no lower side is above the upper one
as_ordered : (l u : Option ℚ) → IsRising l u → AreOrdered l u
as_ordered None u h = tt
as_ordered (Some l) None h = tt
as_ordered (Some l) (Some u) h = h

module _ (m : Mps ℚ) where
  abbrev width : ℕ
  width = length m.columns

  -- what holds of each row holds of those of constraints
  all_rows : (P : Row → Type 0) → ((k i : ℕ) → P (linear_row m k i)) → (k : ℕ) (is : List ℕ) → All P (linear_rows m k is)
  all_rows P h k [] = All-nil P
  all_rows P h k (i ∷ is) = All-cons P (linear_row m k i) (linear_rows m (suc k) is) (h k i) (all_rows P h (suc k) is)

  pub count_lem : variable_count (linear_of m) ≡ width
  unfolding linear_of
  count_lem = elements_length (linear_variable m) 0 width

  pub variable_lem : (j : ℕ) → j < width → variable_at (linear_of m) j ≡ linear_variable m j
  unfolding linear_of
  variable_lem j lt = elements_at (linear_variable m) 0 width j no_variable lt ∙ ap (linear_variable m) (omega arith)

  pub linear_lem : IsLinear (linear_of m)
  unfolding linear_of
  linear_lem =
      record {
        ordered = all_rows (λ r. AreOrdered r.side.lower r.side.upper)
            (λ k i. as_ordered (row_interval m i).lower (row_interval m i).upper
            (row_rising (get_or m.rows i no_mps_row).kind (rhs_at m i) (at_row i m.ranges))) 0 (constraints m.rows);
        within = all_rows (λ r. (j : ℕ) → length (elements_from (linear_variable m) 0 width) ≤ j
            → r.body.coefficient j ≡ zero_ℚ) (λ k i j h. past_columns m i j
            (subst (λ n. n ≤ j) (elements_length (linear_variable m) 0 width) h)) 0 (constraints m.rows);
      }

  pub sense_lem : (linear_of m).maximise ≡ m.maximise
  unfolding linear_of
  sense_lem = refl

  module _ (xs : List ℚ) where
    part_lem : (i : ℕ) → linear_part (coefficient_at m i) width xs ≡ row_value m xs i
    unfolding linear_part row_value
    part_lem i = sum_below_same (λ j. coefficient_at m i j *ℚ value_at xs j)
        (λ j. part_of_row i (column_at m j).entries (value_at xs j)) width
        (λ j lt. part_times i (column_at m j).entries (value_at xs j))

    pub body_lem : (i n : ℕ) → n ≡ width → form_value (row_form m i) n xs ≡ row_value m xs i
    body_lem i n e = zero-+ℚ (linear_part (coefficient_at m i) n xs) ∙ ap (λ n. linear_part (coefficient_at m i) n xs) e ∙ part_lem i

    pub objective_lem : objective_value (linear_of m) xs ≡ mps_objective m xs
    unfolding linear_of
    objective_lem =
        let o = objective_row m.rows in
        ap (λ n. form_value (objective_form m) n xs) (elements_length (linear_variable m) 0 width)
        ∙ ap (λ s. neg_ℚ (rhs_at m o) +ℚ s) (part_lem o)
        ∙ +ℚ_comm (neg_ℚ (rhs_at m o)) (row_value m xs o)
        ∙ sym (-ℚ_lem (row_value m xs o) (rhs_at m o))

    abbrev Holds : ℕ → Type 0
    Holds i = IsInside (row_interval m i) (row_value m xs i)

    rows_hold : (n k : ℕ) (is : List ℕ) → n ≡ width → All Holds is → All (RowHolds n xs) (linear_rows m k is)
    rows_hold n k [] e h = All-nil (RowHolds n xs)
    rows_hold n k (i ∷ is) e h = All-cons (RowHolds n xs) (linear_row m k i) (linear_rows m (suc k) is)
        (subst (IsInside (row_interval m i)) (sym (body_lem i n e)) (All-head Holds i is h))
        (rows_hold n (suc k) is e (All-tail Holds i is h))

    hold_rows : (n k : ℕ) (is : List ℕ) → n ≡ width → All (RowHolds n xs) (linear_rows m k is) → All Holds is
    hold_rows n k [] e h = All-nil Holds
    hold_rows n k (i ∷ is) e h = All-cons Holds i is (subst (IsInside (row_interval m i)) (body_lem i n e)
        (All-head (RowHolds n xs) (linear_row m k i) (linear_rows m (suc k) is) h))
        (hold_rows n (suc k) is e (All-tail (RowHolds n xs) (linear_row m k i) (linear_rows m (suc k) is) h))

    constraints_hold : IsMpsFeasible m xs → All Holds (constraints m.rows)
    unfolding constraints
    constraints_hold r = all_places Holds (is_constraint m.rows) (length m.rows) (λ i lt e. r.rows i lt)

    each_row : All Holds (constraints m.rows) → (i : ℕ) → i < length m.rows → Holds i
    unfolding constraints
    each_row h i lt =
        ⊎_elim
        (λ (t : is_constraint m.rows i ≡ true). at_places Holds (is_constraint m.rows) (length m.rows) h i lt t)
        (λ (f : is_constraint m.rows i ≡ false). free_row (get_or m.rows i no_mps_row).kind (rhs_at m i) (at_row i m.ranges) (row_value m xs i) f)
        (cases_Bool (is_constraint m.rows i))

    linear_rows_hold : IsMpsFeasible m xs → All (RowHolds (variable_count (linear_of m)) xs) (linear_of m).rows
    unfolding linear_of
    linear_rows_hold r = rows_hold (length (elements_from (linear_variable m) 0 width)) 0 (constraints m.rows) (elements_length (linear_variable m) 0 width) (constraints_hold r)

    mps_rows_hold : All (RowHolds (variable_count (linear_of m)) xs) (linear_of m).rows → All Holds (constraints m.rows)
    unfolding linear_of
    mps_rows_hold h = hold_rows (length (elements_from (linear_variable m) 0 width)) 0 (constraints m.rows) (elements_length (linear_variable m) 0 width) h

    inside : {j : ℕ} → j < variable_count (linear_of m) → j < width
    inside {j} h = subst (λ n. j < n) count_lem h

    outside : {j : ℕ} → j < width → j < variable_count (linear_of m)
    outside {j} h = subst (λ n. j < n) (sym count_lem) h

    to_linear : IsMpsFeasible m xs → IsFeasible (linear_of m) xs
    to_linear r =
        record {
          relaxed = record {
            rows = linear_rows_hold r;
            bounds = λ j lt. subst (λ (v : Variable). IsInside v.bound (value_at xs j)) (sym (variable_lem j (inside lt))) (r.bounds j (inside lt));
          };
          whole = λ j lt h. r.whole j (inside lt) (subst (λ (v : Variable). IsTrue v.whole) (variable_lem j (inside lt)) h);
        }

    from_linear : IsFeasible (linear_of m) xs → IsMpsFeasible m xs
    from_linear r =
        record {
          rows = each_row (mps_rows_hold r.relaxed.rows);
          bounds = λ j lt. subst (λ (v : Variable). IsInside v.bound (value_at xs j)) (variable_lem j lt) (r.relaxed.bounds j (outside lt));
          whole = λ j lt h. r.whole j (outside lt) (subst (λ (v : Variable). IsTrue v.whole) (sym (variable_lem j lt)) h);
        }

    pub feasible_lem : IsFeasible (linear_of m) xs ↔ IsMpsFeasible m xs
    feasible_lem = (from_linear, to_linear)
