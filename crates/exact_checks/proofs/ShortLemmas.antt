-- Short fractions: what fits, and what comes of products and differences.
use Rattle.std.proofs.Common.{◌≡◌, ℕ, zero, suc, ◌*◌, ◌/◌, ◌<◌, ◌≤◌, ◌^◌, ◌∙◌, sym, ap, ap₂, refl, subst, arith, lit≤}
use Rattle.std.proofs.Common.{lt_of_le_of_lt, lt_of_lt_of_le, div-le_self, mul-pos, Bool, true, false, T, ℤ, ◌<ℤ◌, ◌≤ℤ◌}
use Rattle.std.proofs.Common.{pos, negsuc, ◌+ℤ◌, ◌*ℤ◌, ◌-ℤ◌, neg_ℤ, unsigned_abs, int_lt, Option, Some, None, ⊎_elim}
use Rattle.std.proofs.Common.{◌↔◌}
use lib.IntN.{*ℤ-one, zero-*ℤ}
use borrow.Author.Differences.{down}
use Rattle.std.specs.Int.Signed.{lt_z_yes}
use Rattle.std.specs.Prelude.{if◌then◌else◌, option_and_then}
use Rattle.std.proofs.Math.Nat.{mul-le-mul_right, one-le-pow, pow-le-pow_right}
use Rattle.std.proofs.lemmas.Nat.{mul-lt}
use Rattle.std.proofs.lemmas.Int.{ints, unsigned_abs-mul}
use Rattle.std.proofs.lemmas.Bool.{and_from}
use Rattle.exact_numbers.specs.Fits.{fits, sum_fits}
use Rattle.exact_numbers.specs.LowestLemmas.{gcd_of, is_gcd, size-div}
use Rattle.exact_numbers.specs.Rational.{ℚ, decimal_value, over, whole, zero_ℚ, ◌-ℚ◌, ◌*ℚ◌, neg_ℚ}
use Rattle.exact_numbers.proofs.RationalLaws.{over_parts, -ℚ_lem, over_same, value_is, neg_size}
use Rattle.exact_numbers.proofs.IntegerLaws.{down_times}
use Rattle.exact_numbers.proofs.Values.{neg_value, over_value, scaled_value, sum_value}
use Rattle.certificates.specs.Checked.{fitting_difference, less_product}
use Rattle.exact_numbers.specs.declared.frac.Frac.{Frac}
use Rattle.exact_numbers.specs.Values.{IsQuotientOf, quotient}
use Rattle.exact_checks.specs.Terms.{value_found}
use Rattle.exact_numbers.proofs.Bridge.{frac_of_fits, small_of, sum_fits_in}
use Rattle.exact_numbers.proofs.Decimals.{abs_is}
use Rattle.exact_numbers.proofs.Fractions.{added}

-- ---- sizes
-- the parts have 64 bits
pub record IsShort (x : ℚ) : Type 0 where
  pub top : unsigned_abs x.top ≤ 2 ^ 63
  pub bottom : x.bottom < 2 ^ 63

pub short_over : (p : ℤ) (q : ℕ) → unsigned_abs p ≤ 2 ^ 63 → q < 2 ^ 63 → IsShort (over p q)
unfolding over whole
short_over p zero h k = record { top = lit≤ tt; bottom = lit≤ tt }
short_over p (suc q) h k =
    let g = gcd_of (unsigned_abs p) (suc q) in
    record {
      top = (let less = div-le_self (unsigned_abs p) g in omega (arith, h, size-div p g));
      bottom = lt_of_le_of_lt (div-le_self (suc q) g) k;
    }

pub short_neg : (x : ℚ) → IsShort x → IsShort (neg_ℚ x)
unfolding neg_ℚ
short_neg x h = short_over (neg_ℤ x.top) x.bottom (subst (λ n. n ≤ 2 ^ 63) (sym (neg_size x.top)) h.top) h.bottom

pub short_fits : (x : ℚ) → IsShort x → fits x ≡ true
short_fits x h = and_from _ _ (small_of _ (lt_of_le_of_lt h.top (lit≤ tt))) (small_of _ (lt_of_lt_of_le h.bottom (lit≤ tt)))

part_size : (z : ℤ) (k : ℕ) → unsigned_abs z ≤ 2 ^ 63 → k < 2 ^ 63 → unsigned_abs (z *ℤ pos k) < 2 ^ 126
part_size z k h l =
    subst (λ n. n < 2 ^ 126) (sym (unsigned_abs-mul z (pos k)))
    (let less = mul-le-mul_right k h in omega (arith, l))

pub short_sum : (x y : ℚ) → IsShort x → IsShort y → sum_fits x y ≡ true
short_sum x y a b =
    let g = gcd_of x.bottom y.bottom in
    let scale : y.bottom / g < 2 ^ 63 = lt_of_le_of_lt (div-le_self y.bottom g) b.bottom in
    let other : x.bottom / g < 2 ^ 63 = lt_of_le_of_lt (div-le_self x.bottom g) a.bottom in
    let first = part_size x.top (y.bottom / g) a.top scale in
    let second = part_size y.top (x.bottom / g) b.top other in
    let w = added x.top x.bottom y.top y.bottom g (frac_of_fits x (short_fits x a)) (frac_of_fits y (short_fits y b)) (is_gcd x.bottom y.bottom) in
    sum_fits_in x y
    (w.fits (lt_of_lt_of_le (mul-lt x.bottom (y.bottom / g) (2 ^ 63) (2 ^ 63) a.bottom scale) (lit≤ tt)) (omega (arith, first)) (omega (arith, second))
    (omega (arith, ints, first, second, abs_is (x.top *ℤ pos (y.bottom / g)), abs_is (y.top *ℤ pos (x.bottom / g)), abs_is (x.top *ℤ pos (y.bottom / g) +ℤ y.top *ℤ pos (x.bottom / g)))))

-- powers of 10
pub small_ten : (k : ℕ) → k < 19 → 10 ^ k < 2 ^ 63
small_ten k l =
    let above : 0 < 10 = omega arith in
    let less : k ≤ 18 = omega (arith, l) in
    lt_of_le_of_lt (pow-le-pow_right above less) (lit≤ tt)

pub some_ten : (k : ℕ) → 0 < 10 ^ k
some_ten k = (let above : 0 < 10 = omega arith in let least : 1 ≤ 10 ^ k = one-le-pow k 10 above in omega (arith, least))

-- a decimal without zeros before the point
pub decimal_over : (m e n : ℤ) (d : ℕ) → n ≡ m → e ≤ℤ pos 0 → d ≡ 10 ^ unsigned_abs e → over n d ≡ decimal_value m e
unfolding decimal_value lib.IntN.one
decimal_over m (pos zero) n d same l ten = ap₂ over (same ∙ sym (*ℤ-one m)) ten
decimal_over m (pos (suc k)) n d same l ten = absurd (omega (arith, ints, l))
decimal_over m (negsuc k) n d same l ten = ap₂ over (same ∙ sym (*ℤ-one m)) ten

-- ---- products and differences
pub scaled_same : (p : ℤ) (q k : ℕ) → 0 < q → 0 < k → over (p *ℤ pos k) (q * k) ≡ over p q
scaled_same p q k a b = sym (value_is (scaled_value k b (over_value p q a)))

pub difference_over : (p r : ℤ) (q : ℕ) → 0 < q → over (p -ℤ r) q ≡ over p q -ℚ over r q
difference_over p r q a = sym (-ℚ_lem (over p q) (over r q) ∙ value_is (sum_value (over_value p q a) (neg_value (over_value r q a))))

pub less_is : (s w a p : ℚ) → IsShort s → IsShort p → p ≡ w *ℚ a → less_product s w a ≡ Some (s -ℚ p)
unfolding less_product
less_is s w a p x y e =
    ap (λ v. option_and_then (λ d. fitting_difference s d) (if fits v then Some v else None)) (sym e)
    ∙ ap (λ b. option_and_then (λ d. fitting_difference s d) (if b then Some p else None)) (short_fits p y)
    ∙ ap (λ b. if b then Some (s -ℚ p) else None) (short_sum s (neg_ℚ p) x (short_neg p y))

pub zero_over : over (pos 0) 1 ≡ zero_ℚ
unfolding whole
zero_over = over_parts zero_ℚ

-- a number that is short fits
pub reduced_is : (r : Option Frac) (p : ℤ) (q : ℕ) (z d : ℤ) → z ≡ p → d ≡ pos q → unsigned_abs p ≤ 2 ^ 63 → 0 < q
    → q < 2 ^ 63 → IsQuotientOf (d ≡ pos 0) r (quotient z d) → value_found r ≡ Some (over p q)
reduced_is r p q z d e f small above less h = by r (subst (λ k. IsQuotientOf (k ≡ pos 0) r (quotient p k)) f (subst (λ k. IsQuotientOf (d ≡ pos 0) r (quotient k d)) e h))
  where
    by : (r : Option Frac) → IsQuotientOf (pos q ≡ pos 0) r (over p q) → value_found r ≡ Some (over p q)
    by None h = absurd (⊎_elim (λ (z : pos q ≡ pos 0). (let none : q ≡ 0 = omega (arith, ints, z) in
        omega (arith, above))) (λ (n : fits (over p q) ≡ false).
        (let both : true ≡ false = sym (short_fits (over p q) (short_over p q small less)) ∙ n in cc)) h)
    by (Some f) h = ap Some h.2

pub factor_small : (a b n : ℕ) → 0 < a → a * b < n → b < n
factor_small zero b n h l = absurd (omega arith)
factor_small (suc a) b n h l = omega arith

-- ---- signs
down_alike : (a b : ℤ) (m n : ℕ) → a *ℤ pos m ≡ b *ℤ pos n → down a * m ≡ down b * n
down_alike a b m n e = sym (down_times a m) ∙ ap down e ∙ down_times b n

pub not_negative : (k : ℕ) → int_lt (pos k) (pos 0) ≡ false
not_negative k = by (int_lt (pos k) (pos 0)) refl
  where
    by : (b : Bool) → int_lt (pos k) (pos 0) ≡ b → int_lt (pos k) (pos 0) ≡ false
    by true e = absurd (let below : pos k <ℤ pos 0 = lt_z_yes (subst T (sym e) tt) in omega (arith, ints, below))
    by false e = e

same_sign : (a b : ℤ) (m n : ℕ) → 0 < m → 0 < n → a *ℤ pos m ≡ b *ℤ pos n → int_lt a (pos 0) ≡ int_lt b (pos 0)
same_sign (pos a) (pos b) m n h k e = not_negative a ∙ sym (not_negative b)
same_sign (negsuc a) (negsuc b) m n h k e = refl
same_sign (pos a) (negsuc b) m n h k e = absurd (let some : 0 < suc b * n = mul-pos (omega arith) k in let none : 0 * m ≡ suc b * n = down_alike (pos a) (negsuc b) m n e in omega (arith, none, some))
same_sign (negsuc a) (pos b) m n h k e = absurd (let some : 0 < suc a * m = mul-pos (omega arith) h in let none : suc a * m ≡ 0 * n = down_alike (negsuc a) (pos b) m n e in omega (arith, none, some))

pub sign_over : (p : ℤ) (q : ℕ) → 0 < q → int_lt (over p q).top (pos 0) ≡ int_lt p (pos 0)
sign_over p q a = let h = over_value p q a in same_sign (over p q).top p q (over p q).bottom a (over p q).above h.equal

pub zero_short : (p : ℤ) (q : ℕ) → 0 < q → (p ≡ pos 0) ↔ (over p q ≡ zero_ℚ)
unfolding lib.IntN.one
zero_short p q a =
    let same = over_same p (pos 0) q 1 a (omega arith) in (
      (λ e. same.1 (ap (λ z. z *ℤ pos 1) e ∙ zero-*ℤ (pos 1) ∙ sym (zero-*ℤ (pos q))) ∙ zero_over),
      (λ e. sym (*ℤ-one p) ∙ same.0 (e ∙ sym zero_over) ∙ zero-*ℤ (pos q)),
    )
