-- Rows that do the same in each bound: so the row of a lemma, of which the number is held as the
-- constant.
use Rattle.std.proofs.Common.{◌≡◌, ℕ, ◌+◌, ◌<◌, ◌≤◌, ◌∙◌, sym, ap, ap₂, subst, refl, arith, ⊎_elim, Bool, true, false, List, [], ◌∷◌, length, length-append, get_or, Option, Some, None, ℤ, pos, negsuc}
use Rattle.std.specs.Prelude.{if◌then◌else◌, option_and_then, is_some, ◌||◌}
use Rattle.std.specs.Option.{option_or}
use Rattle.std.proofs.Math.Path.{fun_ext}
use Rattle.std.proofs.lemmas.Bool.{cases_eq, cases_lt}
use Rattle.std.proofs.lemmas.List.{get_or_past}
use Rattle.exact_numbers.specs.Fits.{fits, sum_fits}
use Rattle.exact_numbers.specs.Functions.{is_zero}
use Rattle.exact_numbers.specs.Rational.{ℚ, zero_ℚ, neg_ℚ, ◌+ℚ◌, ◌-ℚ◌}
use Rattle.exact_numbers.proofs.RationalLaws.{+ℚ_zero, -ℚ_lem, neg-neg, neg_zero, zero-+ℚ}
use Rattle.linear_program.specs.Linear.{Form, Interval, Linear, Row as LinearRow, no_row, row_at, row_count, value_at, variable_count}
use Rattle.certificates.specs.Checked.{fitting, fitting_difference, less_product, plus_product, run}
use Rattle.certificates.specs.Parts.{NumberForm, added_row, at_most, sum_of, with_added_row}
use Rattle.certificates.specs.Points.{Box, Numbers}
use Rattle.certificates.specs.Verdict.{bound_or_fault, bound_total, cost_check, cost_fault, cost_part, cost_part_of}
use Rattle.certificates.specs.Verdict.{cost_step, dual_bound, dual_fault, first_fault, has_needed, needed_side}
use Rattle.certificates.specs.Verdict.{reduced_cost, row_part, row_part_of, row_side_missing, side_fault}
use Rattle.exact_numbers.proofs.Bridge.{frac_fits_lem}
use Rattle.exact_numbers.proofs.Zeros.{fits_zero, sum_fits_zero, zero_sum_fits}
use Rattle.linear_program.specs.Intervals.{interval_of}
use Rattle.linear_program.proofs.FracLemmas.{fits_neg}
use Rattle.exact_checks.specs.Lists.{form_of}
use Rattle.exact_checks.specs.declared.form.Row.{Row}
use Rattle.certificate_judge.specs.InsidePaths.{IsLemmaRow}
use Rattle.certificate_judge.proofs.Lasts.{get_inside, get_last}

pub record IsAlike (a b : LinearRow) : Type 0 where
  pub coefficient : a.body.coefficient ≡ b.body.coefficient
  pub sides : (max : Bool) (v : ℚ) → has_needed max v a.side ≡ has_needed max v b.side
  pub part : (max : Bool) (s d : ℚ) → row_part_of max a.side a.body.constant s d ≡ row_part_of max b.side b.body.constant s d

pub record AreAlike (g f : Linear) : Type 0 where
  pub rows : row_count g ≡ row_count f
  pub variables : variable_count g ≡ variable_count f
  pub row : (i : ℕ) → IsAlike (row_at g i) (row_at f i)

pub row_alike : (r : LinearRow) → IsAlike r r
row_alike r = record { coefficient = refl; sides = λ max v. refl; part = λ max s d. refl }

pub alike_self : (f : Linear) → AreAlike f f
alike_self f = record { rows = refl; variables = refl; row = λ i. row_alike (row_at f i) }

-- with one row more
pub one_alike : (g f : Linear) (a b : Form) (s t : Interval) → AreAlike g f → IsAlike (added_row a s) (added_row b t) → AreAlike (with_added_row g a s) (with_added_row f b t)
one_alike g f a b s t h e =
    record {
      rows = more g a s ∙ ap (λ n. n + 1) h.rows ∙ sym (more f b t);
      variables = h.variables;
      row = λ i. ⊎_elim
          (λ (l : i < length g.rows).
          subst (λ x. IsAlike x (row_at (with_added_row f b t) i)) (sym (get_inside g.rows (added_row a s) no_row i l))
          (subst (λ x. IsAlike (row_at g i) x) (sym (get_inside f.rows (added_row b t) no_row i (subst (λ n. i < n) h.rows l))) (h.row i)))
          (λ (l : length g.rows ≤ i). later i l)
          (cases_lt i (length g.rows));
    }
  where
    more : (k : Linear) (d : Form) (u : Interval) → row_count (with_added_row k d u) ≡ row_count k + 1
    more k d u = length-append k.rows (added_row d u ∷ [])

    later : (i : ℕ) → length g.rows ≤ i → IsAlike (row_at (with_added_row g a s) i) (row_at (with_added_row f b t) i)
    later i l =
        ⊎_elim
        (λ (same : i ≡ length g.rows).
        subst (λ x. IsAlike x (row_at (with_added_row f b t) i)) (sym (ap (λ n. get_or (with_added_row g a s).rows n no_row) same ∙ get_last g.rows (added_row a s) no_row))
        (subst (λ x. IsAlike (added_row a s) x) (sym (ap (λ n. get_or (with_added_row f b t).rows n no_row) (same ∙ h.rows) ∙ get_last f.rows (added_row b t) no_row)) e))
        (λ (other : i ≡ length g.rows → ⊥).
        let beyond : row_count (with_added_row g a s) ≤ i = omega (arith, more g a s, l, other) in
        let also : row_count (with_added_row f b t) ≤ i = omega (arith, more f b t, h.rows, l, other) in
        subst (λ x. IsAlike x (row_at (with_added_row f b t) i)) (sym (get_or_past (with_added_row g a s).rows i no_row beyond))
        (subst (λ x. IsAlike no_row x) (sym (get_or_past (with_added_row f b t).rows i no_row also)) (row_alike no_row)))
        (cases_eq i (length g.rows))

-- ---- the row of a lemma
fitting_known : (x : ℚ) → fits x ≡ true → fitting x ≡ Some x
fitting_known x e = ap (λ b. if b then Some x else None) e

difference_known : (x y d : ℚ) → sum_fits x (neg_ℚ y) ≡ true → x -ℚ y ≡ d → fitting_difference x y ≡ Some d
difference_known x y d e is = ap (λ b. if b then Some (x -ℚ y) else None) e ∙ ap Some is

needed_some : (max : Bool) (z : ℤ) (x y : ℚ) → is_some (needed_side max z (at_most x)) ≡ is_some (needed_side max z (at_most y))
needed_some false (pos n) x y = refl
needed_some false (negsuc n) x y = refl
needed_some true (pos n) x y = refl
needed_some true (negsuc n) x y = refl

-- 0 less - t is t less 0
module _ (t : ℚ) (fit : fits t ≡ true) (s d : ℚ) where
  abbrev with_side : ℚ → ℚ → Option ℚ
  with_side constant side = option_and_then (λ v. option_and_then (λ w. plus_product s v w) (fitting_difference side constant)) (fitting d)

  from_zero : fitting_difference zero_ℚ (neg_ℚ t) ≡ Some t
  from_zero = difference_known zero_ℚ (neg_ℚ t) t (ap (sum_fits zero_ℚ) (neg-neg t) ∙ zero_sum_fits t fit) (-ℚ_lem zero_ℚ (neg_ℚ t) ∙ ap (λ x. zero_ℚ +ℚ x) (neg-neg t) ∙ zero-+ℚ t)

  from_most : fitting_difference t zero_ℚ ≡ Some t
  from_most = difference_known t zero_ℚ t (ap (sum_fits t) neg_zero ∙ sum_fits_zero t fit) (-ℚ_lem t zero_ℚ ∙ ap (λ x. t +ℚ x) neg_zero ∙ +ℚ_zero t)

  upper : option_and_then (with_side (neg_ℚ t)) (fitting zero_ℚ) ≡ option_and_then (with_side zero_ℚ) (fitting t)
  upper =
      ap (option_and_then (with_side (neg_ℚ t))) (fitting_known zero_ℚ fits_zero)
      ∙ ap (λ o. option_and_then (λ v. option_and_then (λ w. plus_product s v w) o) (fitting d)) (from_zero ∙ sym from_most)
      ∙ sym (ap (option_and_then (with_side zero_ℚ)) (fitting_known t fit))

  by_sign : (max : Bool) (z : ℤ) → option_and_then (with_side (neg_ℚ t))
      (option_and_then fitting (needed_side max z (at_most zero_ℚ)))
      ≡ option_and_then (with_side zero_ℚ) (option_and_then fitting (needed_side max z (at_most t)))
  by_sign false (negsuc n) = upper
  by_sign true (pos n) = upper
  by_sign max z = refl

  same_part : (max : Bool) → row_part_of max (at_most zero_ℚ) (neg_ℚ t) s d ≡ row_part_of max (at_most t) zero_ℚ s d
  same_part max = ap (λ o. if is_zero d then Some s else o) (by_sign max d.top)

pub lemma_alike : (form : NumberForm) (t : ℚ) (r : Row) → IsLemmaRow form t r → IsAlike (added_row (form_of r.body) (interval_of r.side)) (added_row (sum_of form) (at_most t))
lemma_alike form t r is =
    record {
      coefficient = ap (λ (b : Form). b.coefficient) is.body;
      sides = λ max v. ap (has_needed max v) is.side ∙ ap (λ o. is_zero v || o) (needed_some max v.top zero_ℚ t);
      part = λ max s d. ap₂ (λ i k. row_part_of max i k s d) is.side (ap (λ (b : Form). b.constant) is.body) ∙ same_part t fit s d max;
    }
  where
    fit : fits t ≡ true
    fit = sym (fits_neg t) ∙ ap fits (sym (ap (λ (b : Form). b.constant) is.body)) ∙ frac_fits_lem r.body.constant

-- ---- so the bounds are the same
module _ (g f : Linear) (h : AreAlike g f) (objective : g.objective ≡ f.objective) (maximise : g.maximise ≡ f.maximise) (box : Box) (y : Numbers) where
  same_sides : side_fault g y ≡ side_fault f y
  same_sides =
      fun_ext (λ i. ap (λ b. if b then None else Some (row_side_missing i))
      (ap (λ m. has_needed m (y i) (row_at g i).side) maximise ∙ (h.row i).sides f.maximise (y i)))

  same_step : (j : ℕ) → cost_step g y j ≡ cost_step f y j
  same_step j =
      fun_ext (λ s. fun_ext (λ i. ap (λ (a : ℕ → ℚ). if is_zero (a j) then Some s else option_and_then (λ v. less_product s v (a j)) (fitting (y i))) (h.row i).coefficient))

  same_cost : (j : ℕ) → reduced_cost g y j ≡ reduced_cost f y j
  unfolding reduced_cost
  same_cost j =
      ap₂ (λ step start. run step start (row_count g)) (same_step j) (ap (λ (o : Form). o.coefficient j) objective)
      ∙ ap (run (cost_step f y j) (f.objective.coefficient j)) h.rows

  same_costs : cost_fault g box y ≡ cost_fault f box y
  unfolding cost_fault
  same_costs = fun_ext (λ j. ap₂ (λ m o. cost_check m (box j) j o) maximise (same_cost j))

  same_rows : run (row_part g y) g.objective.constant (row_count g) ≡ run (row_part f y) f.objective.constant (row_count f)
  same_rows =
      ap₂ (λ step start. run step start (row_count g))
      (fun_ext (λ s. fun_ext (λ i. ap (λ m. row_part_of m (row_at g i).side (row_at g i).body.constant s (y i)) maximise ∙ (h.row i).part f.maximise s (y i))))
      (ap (λ (o : Form). o.constant) objective)
      ∙ ap (run (row_part f y) f.objective.constant) h.rows

  same_parts : cost_part g box y ≡ cost_part f box y
  same_parts = fun_ext (λ s. fun_ext (λ j. ap₂ (λ m o. option_and_then (cost_part_of m (box j) s) o) maximise (same_cost j)))

  same_fault : dual_fault g box y ≡ dual_fault f box y
  unfolding dual_fault
  same_fault =
      ap₂ (λ u v. option_or u v)
      (ap₂ (λ (a : ℕ → _) n. first_fault a n) same_sides h.rows)
      (ap₂ (λ (a : ℕ → _) n. first_fault a n) same_costs h.variables)

  same_total : bound_total g box y ≡ bound_total f box y
  unfolding bound_total
  same_total =
      ap₂ (λ o (step : ℚ → ℕ → Option ℚ). option_and_then (λ s. run step s (variable_count g)) o) same_rows same_parts
      ∙ ap (λ n. option_and_then (λ s. run (cost_part f box y) s n) (run (row_part f y) f.objective.constant (row_count f))) h.variables

pub same_bound : (g f : Linear) → AreAlike g f → g.objective ≡ f.objective → g.maximise ≡ f.maximise → (box : Box) (ys : List ℚ) → dual_bound g box ys ≡ dual_bound f box ys
unfolding dual_bound
same_bound g f h objective maximise box ys = ap₂ bound_or_fault (same_fault g f h objective maximise box (value_at ys)) (same_total g f h objective maximise box (value_at ys))
