-- The bound of the duals is as good as the objective at every relaxed point.
use Rattle.std.proofs.Common.{◌≡◌, ℕ, zero, suc, ◌<◌, ◌∙◌, sym, ap, ap₂, subst, subst₂, refl, arith, Bool, true, false, List, [], ◌∷◌, Option, Some, None, pos}
use Rattle.std.specs.Prelude.{if◌then◌else◌, option_and_then}
use Rattle.std.specs.Option.{option_map_or}
use Rattle.exact_numbers.specs.Rational.{ℚ, zero_ℚ, ◌+ℚ◌, ◌*ℚ◌, ◌-ℚ◌, neg_ℚ, ◌≤ℚ◌}
use Rattle.exact_numbers.specs.Sums.{sum_below}
use Rattle.exact_numbers.proofs.RationalLaws.{+ℚ_zero, +ℚ_assoc, *ℚ_comm, zero-*ℚ, -ℚ_lem}
use Rattle.exact_numbers.proofs.Adding.{sum_below_all_zero, sum_below_same, sum_below-+ℚ, sum_below-*ℚ, sum_below-neg, sum_below_swap_below}
use Rattle.exact_numbers.proofs.Ring.{ring, v, num, ◌⊕◌, ◌⊖◌, ◌⊗◌, opp}
use Rattle.certificates.specs.Checked.{fitting, fitting_difference, plus_product, less_product, run}
use Rattle.linear_program.specs.Linear.{Form, Linear, IsInside, value_at, variable_count, linear_part, form_value, objective_value, no_row, row_count, row_at}
use Rattle.certificates.specs.Points.{Numbers, Box, IsRelaxedIn, IsAsGood}
use Rattle.exact_numbers.specs.Functions.{is_zero}
use Rattle.certificates.specs.LeafSays.{IsInBox, weighted_lack}
use Rattle.certificates.specs.Verdict.{needed_side, form_step, run_form, cost_step, reduced_cost, row_part, cost_part}
use Rattle.certificates.specs.Verdict.{cost_part_of, bound_total, Fault, bound, bound_or_fault, dual_fault, dual_bound}
use Rattle.certificates.specs.Verdict.{without_objective}
use Rattle.exact_numbers.proofs.Tests.{is_zero-true}
use Rattle.certificates.proofs.Checks.{and_then_some, fitting_some, plus_product_some, less_product_some, difference_some, run_by, run_some}
use Rattle.certificates.proofs.Good.{good_refl, good_trans, good_sum, needed_turned, turned_sum, turned_product}

-- a step that passes over 0
pub skipped : (R : ℚ → ℚ → Type 0) → ((x : ℚ) → R x x) → (a s t f : ℚ) (o : Option ℚ) → (a ≡ zero_ℚ → f ≡ zero_ℚ)
    → (o ≡ Some t → R t (s +ℚ f)) → (if is_zero a then Some s else o) ≡ Some t → R t (s +ℚ f)
skipped R same a s t f o none some h = by (is_zero a) refl h
  where
    by : (b : Bool) → is_zero a ≡ b → (if b then Some s else o) ≡ Some t → R t (s +ℚ f)
    by true e h = let is : s ≡ t = cc in subst (R t) (sym is ∙ sym (+ℚ_zero s) ∙ ap (λ z. s +ℚ z) (sym (none (is_zero-true a e)))) (same t)
    by false e h = some h

-- the value of a form, where it is found, is its value
pub form_some : (n : ℕ) (f : Form) (xs : List ℚ) (r : ℚ) → run_form n f (value_at xs) ≡ Some r → form_value f n xs ≡ r
unfolding run_form linear_part
form_some n f xs r h = sym (run_some (form_step f (value_at xs)) (λ j. f.coefficient j *ℚ value_at xs j) f.constant n r each h)
  where
    each : (s t : ℚ) (j : ℕ) → j < n → form_step f (value_at xs) s j ≡ Some t → t ≡ s +ℚ f.coefficient j *ℚ value_at xs j
    each s t j l e =
        skipped (λ x y. x ≡ y) (λ x. refl) (f.coefficient j) s t (f.coefficient j *ℚ value_at xs j) _ (λ z. ap (λ a. a *ℚ value_at xs j) z ∙ zero-*ℚ (value_at xs j))
        (λ k. let w = and_then_some (λ a. plus_product s (f.coefficient j) a) (fitting (value_at xs j)) t k in
        plus_product_some s (f.coefficient j) w.0 t w.2 ∙ ap (λ a. s +ℚ f.coefficient j *ℚ a) (sym (fitting_some (value_at xs j) w.0 w.1)))
        e

-- the reduced cost is the coefficient less the weighted sum of its column
ring_zero : (y a : ℚ) → a ≡ zero_ℚ → neg_ℚ (y *ℚ a) ≡ zero_ℚ
ring_zero y a z = ap (λ b. neg_ℚ (y *ℚ b)) z ∙ ring (y ∷ []) (opp (v 0 ⊗ num (pos 0))) (num (pos 0)) refl

pub cost_some : (f : Linear) (y : Numbers) (j : ℕ) (d : ℚ) → reduced_cost f y j ≡ Some d
    → d ≡ f.objective.coefficient j +ℚ neg_ℚ (sum_below (λ i. y i *ℚ (row_at f i).body.coefficient j) (row_count f))
unfolding reduced_cost
cost_some f y j d h =
    run_some (cost_step f y j) (λ i. neg_ℚ (y i *ℚ (row_at f i).body.coefficient j)) (f.objective.coefficient j) (row_count f) d each h
    ∙ ap (λ z. f.objective.coefficient j +ℚ z) (sum_below-neg (λ i. y i *ℚ (row_at f i).body.coefficient j) (row_count f))
  where
    each : (s t : ℚ) (i : ℕ) → i < (row_count f) → cost_step f y j s i ≡ Some t → t ≡ s +ℚ neg_ℚ (y i *ℚ (row_at f i).body.coefficient j)
    each s t i l e =
        let a = (row_at f i).body.coefficient j in
        skipped (λ x y. x ≡ y) (λ x. refl) a s t (neg_ℚ (y i *ℚ a)) _ (λ z. ring_zero (y i) a z)
        (λ k. let w = and_then_some (λ v. less_product s v a) (fitting (y i)) t k in
        less_product_some s w.0 a t w.2 ∙ -ℚ_lem s (w.0 *ℚ a) ∙ ap (λ v. s +ℚ neg_ℚ (v *ℚ a)) (sym (fitting_some (y i) w.0 w.1)))
        e

good_more : (max : Bool) (x y k : ℚ) → IsAsGood max x y → IsAsGood max (x +ℚ k) (y +ℚ k)
good_more max x y k h = good_sum max x y k k h (good_refl max k)

-- a sum of numbers of which each is as good as 0
sum_good : (max : Bool) (f : ℕ → ℚ) (n : ℕ) → ((i : ℕ) → i < n → IsAsGood max (f i) zero_ℚ) → IsAsGood max (sum_below f n) zero_ℚ
unfolding sum_below
sum_good max f zero each = good_refl max zero_ℚ
sum_good max f (suc n) each =
    subst (IsAsGood max (sum_below f n +ℚ f n)) (+ℚ_zero zero_ℚ)
    (good_sum max (sum_below f n) zero_ℚ (f n) zero_ℚ (sum_good max f n (λ i l. each i (omega arith))) (each n (omega arith)))

module _ (f : Linear) (box : Box) (y : Numbers) (xs : List ℚ) (within : IsInBox f box xs) where
  -- the value of body i
  abbrev at_row : ℕ → ℚ
  at_row i = form_value (row_at f i).body (variable_count f) xs

  -- the weighted sum of column j
  abbrev column : ℕ → ℚ
  column j = sum_below (λ i. y i *ℚ (row_at f i).body.coefficient j) (row_count f)

  -- what row i lacks to the side that its number needs, times this number
  abbrev lack : ℕ → ℚ
  lack = weighted_lack f.maximise f y xs

  no_lack : (i : ℕ) → y i ≡ zero_ℚ → lack i ≡ zero_ℚ
  no_lack i z = by (needed_side f.maximise (y i).top (row_at f i).side)
    where
      by : (o : Option ℚ) → option_map_or (λ side. y i *ℚ (side -ℚ at_row i)) o zero_ℚ ≡ zero_ℚ
      by None = refl
      by (Some s) = ap (λ a. a *ℚ (s -ℚ at_row i)) z ∙ zero-*ℚ _

  -- a row whose side is met lacks nothing
  lack_good : (i : ℕ) → IsInside (row_at f i).side (at_row i) → IsAsGood f.maximise (lack i) zero_ℚ
  lack_good i inside = by (needed_side f.maximise (y i).top (row_at f i).side) refl
    where
      by : (o : Option ℚ) → needed_side f.maximise (y i).top (row_at f i).side ≡ o → IsAsGood f.maximise (option_map_or (λ side. y i *ℚ (side -ℚ at_row i)) o zero_ℚ) zero_ℚ
      by None e = good_refl f.maximise zero_ℚ
      by (Some s) e =
          subst₂ (IsAsGood f.maximise) (ap (λ z. y i *ℚ z) (sym (-ℚ_lem s (at_row i)))) (ring (y i ∷ at_row i ∷ []) (v 0 ⊗ (v 1 ⊕ opp (v 1))) (num (pos 0)) refl)
          (turned_product f.maximise (y i) _ _
          (turned_sum f.maximise (y i).top s (at_row i) (neg_ℚ (at_row i)) (needed_turned f.maximise (y i).top (row_at f i).side s (at_row i) e inside)))

  -- s + v * (side - constant), where the side fits
  row_lacks : (s t : ℚ) (i : ℕ) → i < row_count f → row_part f y s i ≡ Some t → t ≡ s +ℚ (lack i +ℚ y i *ℚ (at_row i -ℚ (row_at f i).body.constant))
  row_lacks s t i l e =
      let k : ℚ = (row_at f i).body.constant in
      skipped (λ x y. x ≡ y) (λ x. refl) (y i) s t (lack i +ℚ y i *ℚ (at_row i -ℚ k)) _ (λ z. ap₂ ◌+ℚ◌ (no_lack i z) (ap (λ a. a *ℚ (at_row i -ℚ k)) z ∙ zero-*ℚ _) ∙ +ℚ_zero zero_ℚ)
      (λ h.
      let first = and_then_some _ (option_and_then fitting (needed_side f.maximise (y i).top (row_at f i).side)) t h in
      let found = and_then_some fitting (needed_side f.maximise (y i).top (row_at f i).side) first.0 first.1 in
      let second = and_then_some (λ w. option_and_then (λ d. plus_product s w d) (fitting_difference first.0 k)) (fitting (y i)) t first.2 in
      let third = and_then_some (λ d. plus_product s second.0 d) (fitting_difference first.0 k) t second.2 in
      let side : found.0 ≡ first.0 = fitting_some found.0 first.0 found.2 in
      let dual : y i ≡ second.0 = fitting_some (y i) second.0 second.1 in
      let lacks : lack i ≡ y i *ℚ (found.0 -ℚ at_row i) = ap (λ o. option_map_or (λ side. y i *ℚ (side -ℚ at_row i)) o zero_ℚ) found.1 in
      plus_product_some s second.0 third.0 t third.2
      ∙ ap₂ (λ a b. s +ℚ a *ℚ b) (sym dual) (difference_some first.0 k third.0 third.1 ∙ ap (λ z. z -ℚ k) (sym side))
      ∙ ap (λ z. s +ℚ z)
      (ring (y i ∷ found.0 ∷ at_row i ∷ k ∷ []) (v 0 ⊗ (v 1 ⊖ v 3)) ((v 0 ⊗ (v 1 ⊖ v 2)) ⊕ (v 0 ⊗ (v 2 ⊖ v 3))) refl ∙ ap (λ z. z +ℚ y i *ℚ (at_row i -ℚ k)) (sym lacks)))
      e

  cost_good : (s t : ℚ) (j : ℕ) → j < (variable_count f) → cost_part f box y s j ≡ Some t → IsAsGood f.maximise t (s +ℚ (f.objective.coefficient j +ℚ neg_ℚ (column j)) *ℚ value_at xs j)
  cost_good s t j l e =
      let w = and_then_some (cost_part_of f.maximise (box j) s) (reduced_cost f y j) t e in
      let d : ℚ = w.0 in
      let is : d ≡ f.objective.coefficient j +ℚ neg_ℚ (column j) = cost_some f y j d w.1 in
      subst (λ z. IsAsGood f.maximise t (s +ℚ z *ℚ value_at xs j)) is
      (skipped (IsAsGood f.maximise) (good_refl f.maximise) d s t (d *ℚ value_at xs j) _ (λ z. ap (λ a. a *ℚ value_at xs j) z ∙ zero-*ℚ (value_at xs j))
      (λ h.
      let first = and_then_some (λ side. plus_product s d side) (option_and_then fitting (needed_side f.maximise d.top (box j))) t h in
      let found = and_then_some fitting (needed_side f.maximise d.top (box j)) first.0 first.1 in
      let value : t ≡ s +ℚ d *ℚ found.0 = plus_product_some s d first.0 t first.2 ∙ ap (λ z. s +ℚ d *ℚ z) (sym (fitting_some found.0 first.0 found.2)) in
      let good = turned_product f.maximise d found.0 (value_at xs j) (needed_turned f.maximise d.top (box j) found.0 (value_at xs j) found.1 (within j l)) in
      subst (λ a. IsAsGood f.maximise a (s +ℚ d *ℚ value_at xs j)) (sym value) (good_sum f.maximise s s _ _ (good_refl f.maximise s) good))
      w.2)

  -- the weighted rows are the weighted columns
  rows_are_columns : sum_below (λ i. y i *ℚ (at_row i -ℚ (row_at f i).body.constant)) (row_count f) ≡ sum_below (λ j. column j *ℚ value_at xs j) (variable_count f)
  unfolding linear_part
  rows_are_columns =
      sum_below_same _ (λ i. sum_below (λ j. y i *ℚ ((row_at f i).body.coefficient j *ℚ value_at xs j)) (variable_count f)) (row_count f)
      (λ i l. ring (y i ∷ (row_at f i).body.constant ∷ sum_below (λ j. (row_at f i).body.coefficient j *ℚ value_at xs j) (variable_count f) ∷ []) (v 0 ⊗ ((v 1 ⊕ v 2) ⊖ v 1)) (v 0 ⊗ v 2) refl
      ∙ sym (sum_below-*ℚ (y i) (λ j. (row_at f i).body.coefficient j *ℚ value_at xs j) (variable_count f)))
      ∙ sum_below_swap_below (λ i j. y i *ℚ ((row_at f i).body.coefficient j *ℚ value_at xs j)) (row_count f) (variable_count f)
      ∙ sum_below_same _ (λ j. column j *ℚ value_at xs j) (variable_count f)
      (λ j l. sum_below_same _ (λ i. value_at xs j *ℚ (y i *ℚ (row_at f i).body.coefficient j)) (row_count f)
      (λ i k. ring (y i ∷ (row_at f i).body.coefficient j ∷ value_at xs j ∷ []) (v 0 ⊗ (v 1 ⊗ v 2))
      (v 2 ⊗ (v 0 ⊗ v 1)) refl)
      ∙ sum_below-*ℚ (value_at xs j) (λ i. y i *ℚ (row_at f i).body.coefficient j) (row_count f) ∙ *ℚ_comm (value_at xs j) (column j))

  together : f.objective.constant +ℚ sum_below (λ i. y i *ℚ (at_row i -ℚ (row_at f i).body.constant)) (row_count f)
      +ℚ sum_below (λ j. (f.objective.coefficient j +ℚ neg_ℚ (column j)) *ℚ value_at xs j) (variable_count f)
      ≡ objective_value f xs
  unfolding linear_part
  together =
      ap (λ z. f.objective.constant +ℚ z +ℚ sum_below (λ j. (f.objective.coefficient j +ℚ neg_ℚ (column j)) *ℚ value_at xs j) (variable_count f)) rows_are_columns
      ∙ +ℚ_assoc f.objective.constant _ _
      ∙ ap (λ z. f.objective.constant +ℚ z)
      (sym (sum_below-+ℚ (λ j. column j *ℚ value_at xs j) (λ j. (f.objective.coefficient j +ℚ neg_ℚ (column j)) *ℚ value_at xs j) (variable_count f))
      ∙ sum_below_same _ (λ j. f.objective.coefficient j *ℚ value_at xs j) (variable_count f)
      (λ j l. ring (column j ∷ f.objective.coefficient j ∷ value_at xs j ∷ []) ((v 0 ⊗ v 2) ⊕ ((v 1 ⊕ opp (v 0)) ⊗ v 2)) (v 1 ⊗ v 2) refl))

  -- the bound is as good as the objective with what the rows lack (the Lagrangian)
  pub total_lacks : (b : ℚ) → bound_total f box y ≡ Some b → IsAsGood f.maximise b (objective_value f xs +ℚ sum_below lack (row_count f))
  unfolding bound_total
  total_lacks b h =
      let w = and_then_some (λ s. run (cost_part f box y) s (variable_count f)) (run (row_part f y) f.objective.constant (row_count f)) b h in
      let bodies : ℚ = sum_below (λ i. y i *ℚ (at_row i -ℚ (row_at f i).body.constant)) (row_count f) in
      let costs : ℚ = sum_below (λ j. (f.objective.coefficient j +ℚ neg_ℚ (column j)) *ℚ value_at xs j) (variable_count f) in
      let rows : w.0 ≡ f.objective.constant +ℚ (sum_below lack (row_count f) +ℚ bodies) =
      run_some (row_part f y) (λ i. lack i +ℚ y i *ℚ (at_row i -ℚ (row_at f i).body.constant)) f.objective.constant (row_count f) w.0 row_lacks w.1
      ∙ ap (λ z. f.objective.constant +ℚ z) (sum_below-+ℚ lack (λ i. y i *ℚ (at_row i -ℚ (row_at f i).body.constant)) (row_count f)) in
      let good = run_by (IsAsGood f.maximise) (good_refl f.maximise) (good_trans f.maximise) (good_more f.maximise)
      (cost_part f box y) (λ j. (f.objective.coefficient j +ℚ neg_ℚ (column j)) *ℚ value_at xs j) w.0
      (variable_count f) b cost_good w.2 in
      subst (IsAsGood f.maximise b)
      (ap (λ z. z +ℚ costs) rows
      ∙ ring (f.objective.constant ∷ sum_below lack (row_count f) ∷ bodies ∷ costs ∷ []) ((v 0 ⊕ (v 1 ⊕ v 2)) ⊕ v 3) (((v 0 ⊕ v 2) ⊕ v 3) ⊕ v 1) refl
      ∙ ap (λ z. z +ℚ sum_below lack (row_count f)) together)
      good

  pub total_good : ((i : ℕ) → i < row_count f → IsInside (row_at f i).side (at_row i)) → (b : ℚ) → bound_total f box y ≡ Some b → IsAsGood f.maximise b (objective_value f xs)
  total_good inside b h =
      let value : ℚ = objective_value f xs in
      good_trans f.maximise b _ value (total_lacks b h)
      (subst (IsAsGood f.maximise (value +ℚ sum_below lack (row_count f))) (+ℚ_zero value)
      (good_sum f.maximise value value _ zero_ℚ (good_refl f.maximise value) (sum_good f.maximise lack (row_count f) (λ i l. lack_good i (inside i l)))))

-- the bound that duals show
pub dual_bound_is : (f : Linear) (box : Box) (ys : List ℚ) (b : ℚ) → dual_bound f box ys ≡ bound b → bound_total f box (value_at ys) ≡ Some b
unfolding dual_bound
dual_bound_is f box ys b h = by (dual_fault f box (value_at ys)) (bound_total f box (value_at ys)) h
  where
    by : (g : Option Fault) (o : Option ℚ) → bound_or_fault g o ≡ bound b → o ≡ Some b
    by (Some g) o h = absurd (cc)
    by None None h = absurd (cc)
    by None (Some r) h = cc

pub weak : (f : Linear) (box : Box) (ys : List ℚ) (b : ℚ) → dual_bound f box ys ≡ bound b → (xs : List ℚ) → IsRelaxedIn f box xs → IsAsGood f.maximise b (objective_value f xs)
weak f box ys b h xs ok = total_good f box (value_at ys) xs ok.bounds (λ i l. ok.rows i no_row l) b (dual_bound_is f box ys b h)

-- the objective 0, minimised: what the rows lack
pub lagrangian : (f : Linear) (box : Box) (ys : List ℚ) (b : ℚ) → dual_bound (without_objective f) box ys ≡ bound b
    → (xs : List ℚ) → IsInBox f box xs → b ≤ℚ sum_below (weighted_lack false f (value_at ys) xs) (row_count f)
unfolding linear_part
lagrangian f box ys b h xs within =
    subst (λ z. b ≤ℚ z)
    (ap (λ z. zero_ℚ +ℚ z +ℚ sum_below (weighted_lack false f (value_at ys) xs) (row_count f)) (sum_below_all_zero _ (variable_count f) (λ j l. zero-*ℚ (value_at xs j)))
    ∙ ring (sum_below (weighted_lack false f (value_at ys) xs) (row_count f) ∷ []) ((num (pos 0) ⊕ num (pos 0)) ⊕ v 0) (v 0) refl)
    (total_lacks (without_objective f) box (value_at ys) xs within b (dual_bound_is (without_objective f) box ys b h))
