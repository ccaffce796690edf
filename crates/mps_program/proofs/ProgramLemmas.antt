-- The linear program that is made of the parts of a program.
use Rattle.std.proofs.Common.{◌≡◌, ℕ, zero, suc, ◌<◌, ◌≤◌, ◌^◌, ◌∙◌, sym, ap, ap₂, refl, subst, arith, Bool, true, false, not, ◌&&◌, List, ◌∷◌, length, map, All, None}
use Rattle.std.proofs.lemmas.Bool.{or_parts}
use Rattle.std.proofs.lemmas.List.{length-map, ext_get_or}
use Rattle.exact_numbers.specs.Fits.{fits}
use Rattle.exact_numbers.specs.Rational.{neg_ℚ}
use Rattle.exact_numbers.specs.declared.dec.Dec.{Dec}
use Rattle.exact_numbers.specs.Values.{dec_value}
use Rattle.linear_program.specs.Elements.{elements_from}
use Rattle.linear_program.specs.Linear.{Variable}
use Rattle.linear_program.proofs.Elements.{elements_length, elements_at}
use Rattle.linear_program.specs.Intervals.{interval_of, is_whole_kind, IsOrdered}
use Rattle.linear_program.specs.Programs.{LinearValue, IsLinear, rows_from, variables_from, linear_value}
use Rattle.linear_program.specs.declared.form.Form.{Form}
use Rattle.linear_program.specs.declared.interval.Interval.{Interval as Sides}
use Rattle.linear_program.specs.declared.kind.Kind.{Kind}
use Rattle.mps_model.specs.Mps.{Mps, with_values, column_with, rhs_at, row_interval, column_interval, objective_row}
use Rattle.mps_program.specs.Places.{listed}
use Rattle.mps_program.specs.Faults.{first_wide, is_body_wide, first_wide_body, is_objective_wide}
use Rattle.mps_program.specs.Program.{values_of, is_constraint, constraints, linear_variable, linear_of}
use Rattle.mps_program.specs.Terms.{row_terms, has_wide_term}
use Rattle.mps_program.specs.Decimals.{sides_from}
use Rattle.mps_program.specs.Kinds.{kind_by, column_kind, is_whole, is_zero_to_one}
use Rattle.mps_program.specs.InsideForms.{IsFormOf, AreBodiesOf}
use Rattle.mps_program.proofs.FaultLemmas.{IsSmall}
use Rattle.mps_program.proofs.FirstLemmas.{listed_at, listed_length}
use Rattle.mps_program.proofs.FormLemmas.{form_lem, form_over, form_size, body_count, rows_lem, bodies_over, bodies_size}
use Rattle.mps_program.proofs.OrderLemmas.{row_back, rows_ordered}
use Rattle.mps_program.proofs.PlaceLemmas.{all_places, none_passes}
use Rattle.mps_program.proofs.SideLemmas.{sides_back, column_fits}
use Rattle.mps_program.proofs.TermLemmas.{AreApart, few_terms}

-- ---- variables
as_elements : {A : Type 0} (f : ℕ → A) (n : ℕ) → listed f n ≡ elements_from f 0 n
as_elements f n =
    ext_get_or (f 0) (listed f n) (elements_from f 0 n) (listed_length f n ∙ sym (elements_length f 0 n))
    (λ i lt. let below : i < n = omega (arith, lt, listed_length f n) in
    listed_at f n i (f 0) below ∙ ap f (omega arith) ∙ sym (elements_at f 0 n i (f 0) below))

pub whole_kind : (w z : Bool) → is_whole_kind (kind_by w z) ≡ w
whole_kind true true = refl
whole_kind true false = refl
whole_kind false z = refl

module _ (m : Mps Dec) where
  abbrev column_side : ℕ → Sides
  column_side j = sides_from (column_interval (values_of m) j)

  column_back : (j : ℕ) → interval_of (column_side j) ≡ column_interval (values_of m) j
  unfolding with_values
  column_back j = sides_back (column_interval (values_of m) j) (column_fits j m.bounds)

  variables_are : (j n : ℕ) → variables_from j (elements_from column_side j n) (elements_from (column_kind m) j n) ≡ elements_from (linear_variable (values_of m)) j n
  unfolding elements_from
  variables_are j zero = refl
  variables_are j (suc n) =
      ap₂ (λ (v : Variable) vs. v ∷ vs)
      (λ p. record { name = (linear_variable (values_of m) j).name; bound = column_back j p; whole = whole_kind (is_whole m j) (is_zero_to_one m j) p })
      (variables_are (suc j) n)

  column_count : length (values_of m).columns ≡ length m.columns
  unfolding with_values
  column_count = length-map m.columns (column_with dec_value)

  -- ---- what a program without a fault has
  pub record IsClean : Type 0 where
    pub small : IsSmall m
    pub wide : first_wide m ≡ None
    pub bodies : first_wide_body m ≡ None
    pub objective : is_objective_wide m ≡ false

  module _ (apart : AreApart (length m.rows) m.columns) (clean : IsClean) where
    second_false : (a b : Bool) → a ≡ true → (a && b) ≡ false → b ≡ false
    second_false true b e h = h
    second_false false b e h = let r = e in cc

    abbrev side_of : ℕ → Sides
    side_of i = sides_from (row_interval (values_of m) i)

    all_back : All (λ i. interval_of (side_of i) ≡ row_interval (values_of m) i) (constraints m.rows)
    unfolding constraints
    all_back = all_places (λ i. interval_of (side_of i) ≡ row_interval (values_of m) i) (is_constraint m.rows) (length m.rows) (λ i lt e. row_back m clean.wide i lt)

    all_fit : All (λ i. has_wide_term (row_terms m i) ≡ false) (constraints m.rows)
    unfolding constraints
    all_fit =
        all_places (λ i. has_wide_term (row_terms m i) ≡ false) (is_constraint m.rows) (length m.rows)
        (λ i lt e. second_false (is_constraint m.rows i) (has_wide_term (row_terms m i)) e (none_passes (is_body_wide m) (length m.rows) clean.bodies i lt))

    objective_fit : has_wide_term (row_terms m (objective_row m.rows)) ≡ false
    objective_fit = (or_parts (not (fits (rhs_at (values_of m) (objective_row m.rows)))) (has_wide_term (row_terms m (objective_row m.rows))) clean.objective).1

    -- ---- the parts
    module _ (bodies : List Form) (objective : Form) (maximise : Bool) (sides bounds : List Sides) (kinds : List Kind)
        (bodies_are : AreBodiesOf (row_terms m) (constraints m.rows) bodies)
        (objective_is : IsFormOf (neg_ℚ (rhs_at (values_of m) (objective_row m.rows))) (row_terms m (objective_row m.rows)) objective)
        (sense : maximise ≡ m.maximise) (sides_are : sides ≡ map side_of (constraints m.rows))
        (bounds_are : bounds ≡ listed column_side (length m.columns)) (kinds_are : kinds ≡ listed (column_kind m) (length m.columns)) where
      abbrev pub whole_value : LinearValue
      whole_value = record { bodies = bodies; objective = objective; number = 0; maximise = maximise; sides = sides; bounds = bounds; kinds = kinds }

      width : length bounds ≡ length m.columns
      width = ap length bounds_are ∙ listed_length column_side (length m.columns)

      pub is_linear : IsLinear whole_value
      is_linear =
          let height : length bodies ≡ length (constraints m.rows) = body_count (row_terms m) (constraints m.rows) bodies bodies_are in
          record {
            bodies = bodies_over m apart (length bounds) width (constraints m.rows) bodies bodies_are all_fit;
            objective = form_over m apart (objective_row m.rows) objective_fit (neg_ℚ (rhs_at (values_of m) (objective_row m.rows))) objective objective_is (length bounds) width;
            sides = ap length sides_are ∙ length-map (constraints m.rows) side_of ∙ sym height;
            ordered = subst (All IsOrdered) (sym sides_are) (rows_ordered m clean.wide);
            kinds = ap length kinds_are ∙ listed_length (column_kind m) (length m.columns) ∙ sym width;
            few_rows = subst (λ n. n ≤ 2 ^ 20) (sym height) clean.small.rows;
            few_columns = subst (λ n. n ≤ 2 ^ 20) (sym width) clean.small.columns;
            few_coefficients = omega (
              arith,
              bodies_size m apart (constraints m.rows) bodies bodies_are all_fit,
              form_size m apart (objective_row m.rows) objective_fit (neg_ℚ (rhs_at (values_of m) (objective_row m.rows))) objective objective_is,
              few_terms m,
              clean.small.entries,
            );
          }

      pub is_program : linear_value whole_value ≡ linear_of (values_of m)
      unfolding linear_value linear_of with_values
      is_program =
          let rows = ap (rows_from 0 bodies) sides_are ∙ rows_lem m apart 0 (constraints m.rows) bodies bodies_are all_fit all_back in
          let variables =
          ap₂ (λ bs ks. variables_from 0 bs ks) (bounds_are ∙ as_elements column_side (length m.columns)) (kinds_are ∙ as_elements (column_kind m) (length m.columns))
          ∙ variables_are 0 (length m.columns)
          ∙ ap (elements_from (linear_variable (values_of m)) 0) (sym column_count) in
          let form = form_lem m apart (objective_row m.rows) objective_fit (neg_ℚ (rhs_at (values_of m) (objective_row m.rows))) objective objective_is in
          λ p. record { rows = rows p; variables = variables p; objective = form p; maximise = sense p }
