-- Sums with 0.
use Rattle.std.proofs.Common.{◌≡◌, ℕ, ◌/◌, ◌∙◌, sym, ap, ap₂, refl, subst, true, pos, ◌+ℤ◌, ◌*ℤ◌, unsigned_abs, one-mul}
use Rattle.std.proofs.lemmas.Bool.{and_from, and_parts}
use Prim.Native.Nat.{◌∣◌}
use Rattle.std.proofs.Math.Nat.{dvd-mul_right, div_self}
use Rattle.std.proofs.lemmas.Nat.Gcd.{dvd_refl}
use lib.IntN.{*ℤ-one, zero-*ℤ, +ℤ_idr, +ℤ_idl}
use Rattle.exact_numbers.specs.declared.frac.Frac.{Frac}
use Rattle.exact_numbers.specs.Values.{frac_value}
use Rattle.exact_numbers.specs.LowestLemmas.{lcm_is}
use Rattle.exact_numbers.proofs.Bridge.{frac_fits_lem}
use Rattle.exact_numbers.proofs.Coprime.{same_lcm}
use Rattle.exact_numbers.specs.Fits.{fits, is_small, sum_fits, sum_over_multiple, parts_fit, least_multiple}
use Rattle.exact_numbers.specs.Rational.{ℚ, whole, zero_ℚ, ◌+ℚ◌}
use Rattle.exact_numbers.proofs.RationalLaws.{zero-+ℚ, +ℚ_zero}

pub fits_zero : fits zero_ℚ ≡ true
unfolding whole
fits_zero = refl

-- x + 0 fits where x does
with_zero : (x : ℚ) (m : ℕ) → m ≡ x.bottom → fits x ≡ true → sum_over_multiple m x zero_ℚ ≡ true
unfolding whole lib.IntN.one
with_zero x m e f =
    let both = and_parts _ _ f in
    subst (λ n. sum_over_multiple n x zero_ℚ ≡ true) (sym e)
    (let one : x.top *ℤ pos (x.bottom / x.bottom) ≡ x.top = ap (λ n. x.top *ℤ pos n) (div_self x.above) ∙ *ℤ-one x.top in
    let none : pos 0 *ℤ pos (x.bottom / 1) ≡ pos 0 = zero-*ℤ (pos (x.bottom / 1)) in
    let sum : x.top +ℤ pos 0 ≡ x.top = +ℤ_idr x.top in
    ap₂ (λ p q. parts_fit x.bottom p q) one none ∙ and_from _ _ (and_from _ _ (and_from _ _ both.1 both.0) refl) (ap (λ p. is_small (unsigned_abs p)) sum ∙ both.0))

pub sum_fits_zero : (x : ℚ) → fits x ≡ true → sum_fits x zero_ℚ ≡ true
unfolding whole
sum_fits_zero x f =
    with_zero x (least_multiple x.bottom 1)
    (same_lcm x.bottom 1 _ x.bottom (lcm_is x.bottom 1) (dvd_refl x.bottom, subst (λ n. 1 ∣ n) (one-mul x.bottom) (dvd-mul_right 1 x.bottom), λ k p q. p))
    f

-- 0 + x fits where x does
zero_with : (x : ℚ) (m : ℕ) → m ≡ x.bottom → fits x ≡ true → sum_over_multiple m zero_ℚ x ≡ true
unfolding whole lib.IntN.one
zero_with x m e f =
    let both = and_parts _ _ f in
    subst (λ n. sum_over_multiple n zero_ℚ x ≡ true) (sym e)
    (let one : x.top *ℤ pos (x.bottom / x.bottom) ≡ x.top = ap (λ n. x.top *ℤ pos n) (div_self x.above) ∙ *ℤ-one x.top in
    let none : pos 0 *ℤ pos (x.bottom / 1) ≡ pos 0 = zero-*ℤ (pos (x.bottom / 1)) in
    let sum : pos 0 +ℤ x.top ≡ x.top = +ℤ_idl x.top in
    ap₂ (λ p q. parts_fit x.bottom q p) one none ∙ and_from _ _ (and_from _ _ (and_from _ _ both.1 refl) both.0) (ap (λ p. is_small (unsigned_abs p)) sum ∙ both.0))

pub zero_sum_fits : (x : ℚ) → fits x ≡ true → sum_fits zero_ℚ x ≡ true
unfolding whole
zero_sum_fits x f =
    zero_with x (least_multiple 1 x.bottom)
    (same_lcm 1 x.bottom _ x.bottom (lcm_is 1 x.bottom) (subst (λ n. 1 ∣ n) (one-mul x.bottom) (dvd-mul_right 1 x.bottom), dvd_refl x.bottom, λ k p q. q))
    f

pub zero_frac_fits : (f : Frac) → sum_fits zero_ℚ (frac_value f) ≡ true
zero_frac_fits f = zero_sum_fits (frac_value f) (frac_fits_lem f)

-- 0 + b is b
pub zero_first : (x : ℚ) (b : Frac) → x ≡ zero_ℚ → (sum_fits x (frac_value b) ≡ true) × (frac_value b ≡ x +ℚ frac_value b)
zero_first x b e = (ap (λ y. sum_fits y (frac_value b)) e ∙ zero_frac_fits b, sym (ap (λ y. y +ℚ frac_value b) e ∙ zero-+ℚ (frac_value b)))

-- a + 0 is a
pub zero_second : (a : Frac) (x : ℚ) → x ≡ zero_ℚ → (sum_fits (frac_value a) x ≡ true) × (frac_value a ≡ frac_value a +ℚ x)
zero_second a x e = (ap (sum_fits (frac_value a)) e ∙ sum_fits_zero (frac_value a) (frac_fits_lem a), sym (ap (λ y. frac_value a +ℚ y) e ∙ +ℚ_zero (frac_value a)))
