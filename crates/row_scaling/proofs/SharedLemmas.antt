use Rattle.std.proofs.Common.{◌≡◌, ◌<◌, ◌∙◌, sym, ap, refl, arith, ℤ, pos, ◌*ℤ◌, Bool, true, false, ◌↔◌, IsTrue, None, Some, ⊎_elim, ◌<ℤ◌, int_lt, nat_eq, ℕ, ◌+◌, cond, List, [], ◌∷◌, ◌≢◌, subst}
use Rattle.std.proofs.lemmas.Int.{ints}
use Rattle.std.specs.Ordering.{int_cmp, ordering_index}
use Rattle.std.specs.declared.cmp.Ordering.{Ordering}
use Rattle.exact_numbers.specs.Rational.{ℚ, zero_ℚ, one_ℚ, whole, decimal_value, ◌+ℚ◌, ◌-ℚ◌, neg_ℚ}
use Rattle.exact_numbers.proofs.Values.{same_crosswise, same_value, whole_value}
use Rattle.exact_numbers.proofs.RationalLaws.{decimal_value_lem, zero-+ℚ, same_whole, +ℚ-neg, -ℚ_lem}
use Rattle.std.proofs.lemmas.Bool.{eq-eqb, ne_eqb}
use Rattle.scaled_program.specs.Program.{nonzero, range_of}
use Rattle.scaled_program.proofs.Sides.{nonzero_cases, difference_zero}
use Rattle.exact_numbers.specs.Values.{dec_value, FitsDec, order_of}
use Rattle.exact_numbers.proofs.Orders.{less_z, greater_z, equal_z}
use Rattle.exact_numbers.specs.Sums.{sum_over}
use Rattle.linear_program.specs.Decimals.{coefficient_of}
use Rattle.row_scaling.specs.Rows.{TermOf}
use Rattle.exact_numbers.specs.Fits.{sum_fits}
use Rattle.scaled_program.specs.Fits.{IfSide, IfBoth, RangeFits}
use Rattle.exact_numbers.specs.declared.dec.Dec.{Dec}

-- What the export of a scaled program needs, too: lists, coefficients, 0 and 1, comparison.

-- ---- a coefficient of terms
pub nothing_in : (j : ℕ) → coefficient_of [] j ≡ zero_ℚ
unfolding coefficient_of sum_over
nothing_in j = refl

pub first_in : (t : TermOf) (ts : List TermOf) (j : ℕ) → t.0 ≡ j → coefficient_of (t ∷ ts) j ≡ dec_value t.1 +ℚ coefficient_of ts j
unfolding coefficient_of sum_over
first_in t ts j e = ap (λ b. cond b (dec_value t.1) zero_ℚ +ℚ coefficient_of ts j) (eq-eqb t.0 j e)

pub later_in : (t : TermOf) (ts : List TermOf) (j : ℕ) → (t.0 ≡ j → ⊥) → coefficient_of (t ∷ ts) j ≡ coefficient_of ts j
unfolding coefficient_of sum_over
later_in t ts j e = ap (λ b. cond b (dec_value t.1) zero_ℚ +ℚ coefficient_of ts j) (ne_eqb t.0 j e) ∙ zero-+ℚ (coefficient_of ts j)

-- ---- 0 and 1
pub zero_left_out : nonzero zero_ℚ ≡ None
unfolding whole
zero_left_out = refl

pub some_nonzero : (x : ℚ) → (x ≡ zero_ℚ → ⊥) → nonzero x ≡ Some x
some_nonzero x h = ⊎_elim (λ (z : (nonzero x ≡ None) × (x ≡ zero_ℚ)). absurd (h z.1)) (λ s. s) (nonzero_cases x)

pub no_difference_at : (l u : ℚ) → l ≡ u → nonzero (u -ℚ l) ≡ None
no_difference_at l u e = ap nonzero (ap (λ x. u -ℚ x) e ∙ -ℚ_lem u u ∙ +ℚ-neg u) ∙ zero_left_out

pub some_difference : (l u : ℚ) → (l ≡ u → ⊥) → nonzero (u -ℚ l) ≡ Some (u -ℚ l)
some_difference l u h = some_nonzero (u -ℚ l) (λ z. h (difference_zero l u z))

pub one_not_zero : one_ℚ ≢ zero_ℚ
one_not_zero e = let f : pos 1 ≡ pos 0 = same_whole (pos 1) (pos 0) e in cc

pub zero_decimal : decimal_value (pos 0) (pos 0) ≡ zero_ℚ
zero_decimal = same_value (decimal_value_lem (pos 0) (pos 0)) (whole_value (pos 0)) refl

pub zero_fits : FitsDec (decimal_value (pos 0) (pos 0))
zero_fits = record { m = pos 0; e = pos 0; dec = record { mantissa = omega arith; exponent = omega arith; shortest = λ h. (refl, refl) }; same = refl }

pub one_decimal : decimal_value (pos 1) (pos 0) ≡ one_ℚ
one_decimal = same_value (decimal_value_lem (pos 1) (pos 0)) (whole_value (pos 1)) refl

pub one_fits : FitsDec (decimal_value (pos 1) (pos 0))
one_fits = record { m = pos 1; e = pos 0; dec = record { mantissa = omega arith; exponent = omega arith; shortest = λ h. absurd (omega (arith, h)) }; same = refl }

-- ---- comparison
equal_out : (z w : ℤ) → nat_eq (ordering_index (int_cmp z w)) 1 ≡ true → z ≡ w
equal_out z w h =
    elim (int_lt z w) as (λ b. int_lt z w ≡ b → z ≡ w) [
      | true ↦ λ e. (let l : z <ℤ w = omega (arith, ints, e) in let f = sym (ap (λ o. nat_eq (ordering_index o) 1) (less_z z w l)) ∙ h in cc)
      | false ↦ λ e. elim (int_lt w z) as (λ b. int_lt w z ≡ b → z ≡ w) [
        | true ↦ λ f. (let l : w <ℤ z = omega (arith, ints, f) in let g = sym (ap (λ o. nat_eq (ordering_index o) 1) (greater_z z w l)) ∙ h in cc)
        | false ↦ λ f. omega (arith, ints, e, f)
      ] refl
    ] refl

pub by_order : (b : Bool) (o : Ordering) (x y : ℚ) → b ≡ nat_eq (ordering_index o) 1 → o ≡ order_of x y → IsTrue b ↔ (x ≡ y)
by_order b o x y test order =
    let is = test ∙ ap (λ o. nat_eq (ordering_index o) 1) order in
    (λ t. same_crosswise x y (equal_out _ _ (sym is ∙ t)), λ e. is ∙ ap (λ o. nat_eq (ordering_index o) 1) (equal_z _ _ (ap (λ z. z.top *ℤ pos y.bottom) e ∙ ap (λ z. y.top *ℤ pos z.bottom) (sym e))))

-- The difference of two sides.

pub value_fits : (d : Dec) (x : ℚ) → dec_value d ≡ x → FitsDec x
value_fits d x e = record { m = d.m; e = d.e; dec = d.spelled; same = e }

module _ (l u : ℚ) where
  pub same_sides : l ≡ u → IfBoth RangeFits (Some l) (Some u) × (None ≡ range_of (Some l) (Some u))
  same_sides e = let none = no_difference_at l u e in (subst (IfSide (λ r. RangeFits l u)) (sym none) tt, sym none)

  fits_apart : (l ≡ u → ⊥) → IfBoth RangeFits (Some l) (Some u) → RangeFits l u
  fits_apart h f = subst (IfSide (λ r. RangeFits l u)) (some_difference l u h) f

  pub too_wide : (l ≡ u → ⊥) → sum_fits u (neg_ℚ l) ≡ false → ¬ IfBoth RangeFits (Some l) (Some u)
  too_wide h e f = let t : sum_fits u (neg_ℚ l) ≡ true = (fits_apart h f).difference in cc

  pub no_decimal : (l ≡ u → ⊥) → ¬ FitsDec (u -ℚ l) → ¬ IfBoth RangeFits (Some l) (Some u)
  no_decimal h n f = n (fits_apart h f).dec

  pub range_there : (d : Dec) → (l ≡ u → ⊥) → sum_fits u (neg_ℚ l) ≡ true → dec_value d ≡ u -ℚ l → IfBoth RangeFits (Some l) (Some u) × (Some (dec_value d) ≡ range_of (Some l) (Some u))
  range_there d h t e = (
    subst (IfSide (λ r. RangeFits l u)) (sym (some_difference l u h)) (record { difference = t; dec = value_fits d (u -ℚ l) e }),
    ap Some e ∙ sym (some_difference l u h),
  )
