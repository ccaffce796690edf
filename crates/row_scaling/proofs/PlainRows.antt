-- A row that is exported as it stands: its constant is 0, its terms are decimals, and its factor is 1.
use Rattle.std.proofs.Common.{◌≡◌, ℕ, ◌∙◌, sym, ap, ap₂, refl, subst, List, ◌++◌, pos, Option, Some, None, IsTrue, append-nil}
use Rattle.exact_numbers.specs.Fits.{fits, sum_fits}
use Rattle.exact_numbers.specs.Rational.{decimal_value, ℚ, zero_ℚ, one_ℚ, whole, neg_ℚ, ◌*ℚ◌, ◌-ℚ◌, ◌+ℚ◌}
use Rattle.exact_numbers.proofs.RationalLaws.{one-*ℚ, neg_zero, +ℚ_zero, -ℚ_lem}
use Rattle.exact_numbers.proofs.Zeros.{sum_fits_zero}
use Rattle.exact_numbers.specs.declared.dec.Dec.{Dec}
use Rattle.exact_numbers.specs.declared.frac.Frac.{Frac}
use Rattle.exact_numbers.specs.Values.{dec_value, frac_value}
use Rattle.scaled_program.specs.Fits.{IfSide, IfBoth, RangeFits}
use Rattle.scaled_program.specs.Factor.{least_factor}
use Rattle.scaled_program.specs.Program.{range_of}
use Rattle.linear_program.specs.Coefs.{AreAscending, AreBelow, AreDecimalsOf}
use Rattle.linear_program.specs.declared.form.Form.{Form}
use Rattle.linear_program.specs.declared.interval.Interval.{Interval}
use Rattle.linear_program.specs.Forms.{form_line, form_terms}
use Rattle.linear_program.specs.Intervals.{is_sided}
use Rattle.row_scaling.specs.Factored.{IsFactored, row_for}
use Rattle.row_scaling.specs.Fitting.{ArePlain, AreSidesFit, HasFraction, LessFits, NumberFits, coefficients_in, less_side, listed, times_side}
use Rattle.row_scaling.specs.Rows.{IsScaledRow, RowValue, TermOf, side_value}
use Rattle.row_scaling.proofs.FitLemmas.{factored, is_scaled}
use Rattle.row_scaling.proofs.NumberLemmas.{decimal_cofactor, factor_same, no_factor, one_more, plain_terms, same_multiple}
use Rattle.row_scaling.proofs.SharedLemmas.{one_not_zero}

pub same_decimal : (a b : Dec) → a.m ≡ b.m → a.e ≡ b.e → dec_value a ≡ dec_value b
same_decimal a b m e = ap₂ decimal_value m e

-- ---- a side that is a decimal
less_nothing : (x : ℚ) → x ≡ x -ℚ zero_ℚ
less_nothing x = sym (-ℚ_lem x zero_ℚ ∙ ap (λ y. x +ℚ y) neg_zero ∙ +ℚ_zero x)

side_less_nothing : (o : Option ℚ) → o ≡ less_side zero_ℚ o
side_less_nothing None = refl
side_less_nothing (Some x) = ap Some (less_nothing x)

side_times_one : (o : Option ℚ) → o ≡ times_side one_ℚ o
side_times_one None = refl
side_times_one (Some x) = ap Some (sym (one-*ℚ x))

less_fits : (c : ℚ) (o : Option ℚ) → c ≡ zero_ℚ → IfSide HasFraction o → IfSide (LessFits c) o
less_fits c None e h = tt
less_fits c (Some x) e h = record { side = h; less = ap (sum_fits x) (ap neg_ℚ e ∙ neg_zero) ∙ sum_fits_zero x h }

number_fits : (o : Option Dec) → IfSide HasFraction (side_value o) → IfSide (NumberFits one_ℚ) (side_value o)
number_fits None h = tt
number_fits (Some d) h =
    let same : dec_value d ≡ one_ℚ *ℚ dec_value d = sym (one-*ℚ (dec_value d)) in
    record { frac = ap fits (sym same) ∙ h; dec = record { m = d.m; e = d.e; dec = d.spelled; same = same } }

factor_with_side : (xs : List ℚ) (o : Option Dec) → least_factor xs ≡ least_factor (xs ++ listed (side_value o))
factor_with_side xs None = ap least_factor (sym (append-nil xs))
factor_with_side xs (Some d) = sym (same_multiple (least_factor xs) _ (decimal_cofactor d (dec_value d) refl)) ∙ one_more xs (dec_value d)

module _ (n i : ℕ) (b : Form) (s : Interval) (up : AreAscending 0 (form_terms b)) (sided : IsTrue (is_sided s))
    (ds : List TermOf) (are : AreDecimalsOf ds (form_terms b)) (none : (form_line b).constant ≡ zero_ℚ)
    (side : Interval) (same : side ≡ s) (range : Option Dec) (plain : ArePlain (side_value s.lo) (side_value s.hi) range) where
  abbrev lo : Option ℚ
  lo = side_value s.lo

  abbrev hi : Option ℚ
  hi = side_value s.hi

  abbrev row : RowValue
  row = record { terms = ds; side = side; range = range }

  factor_one : pos 1 ≡ pos (least_factor (coefficients_in (form_terms b) ++ listed lo ++ listed hi))
  factor_one =
      let ts = coefficients_in (form_terms b) in
      no_factor ∙ ap pos (factor_same _ ds (form_terms b) are ∙ factor_with_side ts s.lo ∙ factor_with_side (ts ++ listed lo) s.hi)

  lower_less : lo ≡ less_side (form_line b).constant lo
  lower_less = side_less_nothing lo ∙ ap (λ c. less_side c lo) (sym none)

  upper_less : hi ≡ less_side (form_line b).constant hi
  upper_less = side_less_nothing hi ∙ ap (λ c. less_side c hi) (sym none)

  lower_same : side_value side.lo ≡ times_side one_ℚ lo
  lower_same = ap (λ d. side_value d.lo) same ∙ side_times_one lo

  upper_same : side_value side.hi ≡ times_side one_ℚ hi
  upper_same = ap (λ d. side_value d.hi) same ∙ side_times_one hi

  pub plain_row : IsScaledRow row
  plain_row =
      is_scaled one_ℚ (form_line b).constant lo hi lo hi b ds side range lower_less upper_less one_not_zero up sided
      (plain_terms one_ℚ refl ds (form_terms b) are) lower_same upper_same (subst (λ d. side_value range ≡ range_of (side_value d.lo) (side_value d.hi)) (sym same) plain.range_is.1)

  sides_fit : AreSidesFit one_ℚ lo hi
  sides_fit =
      record {
        lower = number_fits s.lo plain.lower;
        upper = number_fits s.hi plain.upper;
        range = subst (λ l. IfBoth RangeFits l (times_side one_ℚ hi)) (side_times_one lo) (subst (λ u. IfBoth RangeFits lo u) (side_times_one hi) plain.range_is.0);
      }

  pub plain_factored : (one : Frac) → frac_value one ≡ one_ℚ → AreBelow n (form_terms b) → IsFactored n i (row_for i b s) (record { factor = pos 1; row = row })
  plain_factored one is below =
      factored n i b s up below lo hi lower_less upper_less one_ℚ (ap whole factor_one) (pos 1) one row is factor_one
      (less_fits (form_line b).constant lo none plain.lower) (less_fits (form_line b).constant hi none plain.upper) sides_fit plain_row
      (plain_terms one_ℚ refl ds (form_terms b) are) lower_same upper_same
