-- Numbers that fit.
use Rattle.std.proofs.Common.{◌≡◌, ℕ, zero, suc, ◌∙◌, sym, ap, ap₂, subst, Bool, true, false, ◌&&◌, neg_ℤ, unsigned_abs, Option, Some, None, List, [], ◌∷◌}
use Rattle.std.proofs.lemmas.Bool.{false_from_ne_true}
use Rattle.exact_numbers.specs.declared.frac.Frac.{Frac}
use Rattle.exact_numbers.proofs.Bridge.{frac_fits_lem}
use Rattle.exact_numbers.proofs.Zeros.{fits_zero}
use Rattle.exact_numbers.specs.Divisors.{AreCoprime}
use Rattle.exact_numbers.specs.Fits.{fits, is_small}
use Rattle.exact_numbers.specs.Rational.{ℚ, neg_ℚ, zero_ℚ}
use Rattle.exact_numbers.proofs.RationalLaws.{over_lowest, neg_size}
use Rattle.linear_program.specs.Coefs.{Term, found, value_or_zero, coef_in}
use Rattle.linear_program.specs.Places.{place_in}
use Rattle.linear_program.proofs.LineLemmas.{is_zero-true}
use Rattle.linear_program.specs.Lines.{is_zero}

pub fits_neg : (x : ℚ) → fits (neg_ℚ x) ≡ fits x
unfolding neg_ℚ
fits_neg x =
    let parts = over_lowest (neg_ℤ x.top) x.bottom x.above (subst (λ n. AreCoprime n x.bottom) (sym (neg_size x.top)) x.lowest) in
    ap₂ (λ t b. is_small (unsigned_abs t) && is_small b) parts.0 parts.1 ∙ ap (λ n. is_small n && is_small x.bottom) (neg_size x.top)

pub fits_or_zero : (o : Option Frac) → fits (value_or_zero o) ≡ true
fits_or_zero None = fits_zero
fits_or_zero (Some f) = frac_fits_lem f

pub coef_fits : (ts : List Term) (j : ℕ) → fits (coef_in ts j) ≡ true
coef_fits ts j = fits_or_zero (found ts j)

pub place_fits : (ps : List Frac) (j : ℕ) → fits (place_in ps j) ≡ true
place_fits [] j = fits_zero
place_fits (p ∷ ps) zero = frac_fits_lem p
place_fits (p ∷ ps) (suc j) = place_fits ps j

pub nonzero_test : (x : ℚ) (r : Bool) → (x ≡ zero_ℚ → r ≡ true) → r ≡ false → is_zero x ≡ false
nonzero_test x r f e = false_from_ne_true _ (λ y. (let clash : true ≡ false = sym (f (is_zero-true x y)) ∙ e in cc))
