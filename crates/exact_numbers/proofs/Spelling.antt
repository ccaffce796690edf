-- The one spelling of the value of a Dec.
use Rattle.std.proofs.Common.{◌≡◌, ◌≢◌, ℕ, zero, suc, ◌+◌, ◌*◌, ◌/◌, ◌%◌, ◌^◌, ◌<◌, ◌≤◌, ◌&&◌, not, ⊎_elim, ◌∙◌, sym}
use Rattle.std.proofs.Common.{ap, ap₂, refl, arith, subst, ℤ, pos, negsuc, ◌+ℤ◌, ◌-ℤ◌, ◌*ℤ◌, ◌≤ℤ◌, ◌<ℤ◌, neg_ℤ}
use Rattle.std.proofs.Common.{unsigned_abs, int_div, nat_eq, Bool, true, false, cond, mul_comm, mul-pos, pow-add}
use Rattle.std.proofs.Math.Nat.{mul-mod_left, eq_of_mul-eq-mul_right, div-add-mod', mul-div_cancel, zero-div}
use Rattle.std.proofs.lemmas.Bool.{cases_eq, or_right, ne_eqb, eq-eqb, eqb-true, le-leb, and_from}
use Rattle.std.proofs.lemmas.Int.{ints, by_lt_z, unsigned_abs-mul}
use borrow.Author.Differences.{up, down, same_in}
use Rattle.exact_numbers.specs.Rational.{ℚ, decimal_value}
use Rattle.exact_numbers.specs.Decimal.{IsDec}
use Rattle.exact_numbers.specs.Values.{Decimal, is_multiple, mantissa_at, exponent_below, decimal_of, value_text, is_spelled, fits_dec, FitsDec}
use Rattle.exact_numbers.specs.SpelledLemmas.{second_of_both, spelled_of}
use Rattle.exact_numbers.specs.Written.{dec_text}
use Rattle.exact_numbers.proofs.Pairs.{scaled}
use Rattle.exact_numbers.proofs.Tens.{ten-pos, zeros-le}
use Rattle.exact_numbers.proofs.Signed.{sizes_of, times_twice}
use Rattle.exact_numbers.proofs.Decimals.{abs_is}
use Rattle.exact_numbers.proofs.Bridge.{Is, decimal_is, zero_decimal, small_of}
use Rattle.exact_numbers.proofs.Fractions.{signed_times}
use Rattle.exact_numbers.proofs.Values.{own_value, same_value}
use Rattle.exact_numbers.proofs.RationalLaws.{zero_top, top_zero}
use Rattle.exact_numbers.proofs.Signs.{dec_zero}

whole_part : (n d : ℕ) → n % d ≡ 0 → n ≡ n / d * d
whole_part n d z = sym (div-add-mod' n d) ∙ omega (arith, z)

-- two factors of one number, both times powers of ten
crossing : (k m t b a c u v : ℕ) → 0 < b → k * (b * 10 ^ u) ≡ t * 10 ^ v → t * 10 ^ c ≡ m * (b * 10 ^ a) → k * 10 ^ (u + c) ≡ m * 10 ^ (a + v)
crossing k m t b a c u v some e f =
    eq_of_mul-eq-mul_right b some _ _
    (ap (λ n. k * n * b) (pow-add 10 u c) ∙ omega arith ∙ ap (λ n. n * 10 ^ c) e ∙ omega arith ∙ ap (λ n. n * 10 ^ v) f ∙ omega arith ∙ ap (λ n. m * n * b) (sym (pow-add 10 a v)))

-- ---- the exponent
module _ (x : ℚ) (m e : ℤ) (h : Is x (scaled m e)) where
  sizes : unsigned_abs x.top * 10 ^ down e ≡ unsigned_abs m * (x.bottom * 10 ^ up e)
  sizes = sizes_of x.top (m *ℤ pos (10 ^ up e)) (10 ^ down e) x.bottom h.equal ∙ ap (λ n. n * x.bottom) (unsigned_abs-mul m (pos (10 ^ up e))) ∙ omega arith

  multiple_at : is_multiple x e ≡ true
  multiple_at = eq-eqb _ _ (ap (λ n. n % (x.bottom * 10 ^ up e)) sizes ∙ mul-mod_left (unsigned_abs m) (x.bottom * 10 ^ up e))

  -- a larger exponent would leave a zero at the end of m
  not_above : (g : ℤ) → unsigned_abs m % 10 ≢ 0 → e <ℤ g → is_multiple x g ≡ false
  not_above g odd less =
      ne_eqb _ _
      (λ z.
      let k = (unsigned_abs x.top * 10 ^ down g) / (x.bottom * 10 ^ up g) in
      let split : k * (x.bottom * 10 ^ up g) ≡ unsigned_abs x.top * 10 ^ down g = sym (whole_part _ _ z) in
      let crossed : k * 10 ^ (up g + down e) ≡ unsigned_abs m * 10 ^ (up e + down g) = crossing k (unsigned_abs m) (unsigned_abs x.top) x.bottom (up e) (down e) (up g) (down g) x.above split sizes in
      let places = zeros-le k (unsigned_abs m) (up g + down e) (up e + down g) odd crossed in
      omega (arith, ints, places))

  exponent_is : unsigned_abs m % 10 ≢ 0 → (n : ℕ) (g : ℤ) → e ≤ℤ g → g ≤ℤ (e +ℤ pos n) → exponent_below x n g ≡ e
  unfolding exponent_below
  exponent_is odd zero g low high = omega (arith, ints)
  exponent_is odd (suc n) g low high =
      by_lt_z e g
      (λ less. ap (λ b. cond b g (exponent_below x n (g -ℤ pos 1))) (not_above g odd less) ∙ exponent_is odd n (g -ℤ pos 1) (omega (arith, ints)) (omega (arith, ints)))
      (λ back. let same : g ≡ e = omega (arith, ints) in ap (λ b. cond b g (exponent_below x n (g -ℤ pos 1))) (ap (is_multiple x) same ∙ multiple_at) ∙ same)

-- ---- the mantissa
div_neg : (a k : ℕ) → int_div (neg_ℤ (pos a)) (pos k) ≡ neg_ℤ (pos (a / k))
div_neg zero k = ap pos (zero-div k) ∙ ap (λ n. neg_ℤ (pos n)) (sym (zero-div k))
div_neg (suc a) k = refl

div_times : (m : ℤ) (k : ℕ) → 0 < k → int_div (m *ℤ pos k) (pos k) ≡ m
div_times (pos n) k some = ap pos (mul-div_cancel n some)
div_times (negsuc n) k some = div_neg (suc n * k) k ∙ ap (λ a. neg_ℤ (pos a)) (mul-div_cancel (suc n) some)

mantissa_is : (x : ℚ) (m e : ℤ) → Is x (scaled m e) → mantissa_at x e ≡ m
mantissa_is x m e h =
    ap (λ z. int_div z (pos (x.bottom * 10 ^ up e))) (h.equal ∙ times_twice m (10 ^ up e) x.bottom ∙ ap (λ n. m *ℤ pos n) (mul_comm (10 ^ up e) x.bottom))
    ∙ div_times m (x.bottom * 10 ^ up e) (mul-pos x.above (ten-pos (up e)))

-- ---- the spelling
pub decimal_of-decimal : (m e : ℤ) → IsDec m e → decimal_of (decimal_value m e) ≡ record { mantissa = m; exponent = e }
unfolding decimal_of
decimal_of-decimal m e dec = ⊎_elim zero_case other (cases_eq (unsigned_abs m % 10) 0)
  where
    zero_case : unsigned_abs m % 10 ≡ 0 → decimal_of (decimal_value m e) ≡ record { mantissa = m; exponent = e }
    zero_case z =
        let both = dec.shortest z in
        let top : unsigned_abs (decimal_value m e).top ≡ 0 = ap unsigned_abs (top_zero _ ((dec_zero m e).0 both.0)) in
        let none : Decimal = record { mantissa = pos 0; exponent = pos 0 } in
        ap (λ b. cond b none (record {
          mantissa = mantissa_at (decimal_value m e)
              (exponent_below (decimal_value m e) 800 (pos 400));
          exponent =
              exponent_below (decimal_value m e) 800 (pos 400);
        })) (eq-eqb _ _ top)
        ∙ ap₂ (λ a b. record { mantissa = a; exponent = b }) (sym both.0) (sym both.1)

    other : unsigned_abs m % 10 ≢ 0 → decimal_of (decimal_value m e) ≡ record { mantissa = m; exponent = e }
    other odd =
        let x = decimal_value m e in
        let near = abs_is e in
        let some : unsigned_abs x.top ≢ 0 = λ z. odd (ap (λ n. unsigned_abs n % 10) ((dec_zero m e).1 (zero_top x (same_in x.top (pos 0) (omega (arith, abs_is x.top, z)))))) in
        let place : exponent_below x 800 (pos 400) ≡ e = exponent_is x m e (decimal_is m e) odd 800 (pos 400) (omega (arith, ints, dec.exponent)) (omega (arith, ints, dec.exponent)) in
        let none : Decimal = record { mantissa = pos 0; exponent = pos 0 } in
        ap (λ b. cond b none (record { mantissa = mantissa_at x (exponent_below x 800 (pos 400)); exponent = exponent_below x 800 (pos 400) })) (ne_eqb _ _ some)
        ∙ ap (λ g. record { mantissa = mantissa_at x g; exponent = g }) place
        ∙ ap (λ n. record { mantissa = n; exponent = e }) (mantissa_is x m e (decimal_is m e))

pub value_text-decimal : (m e : ℤ) → IsDec m e → value_text (decimal_value m e) ≡ dec_text m e
value_text-decimal m e dec = ap (λ s. dec_text s.mantissa s.exponent) (decimal_of-decimal m e dec)

-- ---- the test
div_exact : (z : ℤ) (d : ℕ) → unsigned_abs z % d ≡ 0 → int_div z (pos d) *ℤ pos d ≡ z
div_exact (pos n) d e = ap pos (sym (whole_part n d e))
div_exact (negsuc n) d e = signed_times true (suc n / d) d ∙ ap (λ k. neg_ℤ (pos k)) (sym (whole_part (suc n) d e))

abbrev spelled_by : ℚ → ℤ → Decimal
spelled_by x g = record { mantissa = mantissa_at x g; exponent = g }

abbrev none : Decimal
none = record { mantissa = pos 0; exponent = pos 0 }

-- a number is the value of its spelling, where it is a whole multiple of that power of ten
spelled_value : (x : ℚ) (g : ℤ) → is_multiple x g ≡ true → decimal_value (mantissa_at x g) g ≡ x
spelled_value x g e =
    let d = x.bottom * 10 ^ up g in
    let z = x.top *ℤ pos (10 ^ down g) in
    let whole : unsigned_abs z % d ≡ 0 = ap (λ n. n % d) (unsigned_abs-mul x.top (pos (10 ^ down g))) ∙ eqb-true _ _ e in
    same_value (decimal_is (mantissa_at x g) g) (own_value x)
    (times_twice (mantissa_at x g) (10 ^ up g) x.bottom ∙ ap (λ n. mantissa_at x g *ℤ pos n) (mul_comm (10 ^ up g) x.bottom) ∙ div_exact z d whole)

value_of_spelling : (x : ℚ) → is_multiple x (decimal_of x).exponent ≡ true → decimal_value (decimal_of x).mantissa (decimal_of x).exponent ≡ x
unfolding decimal_of
value_of_spelling x = by (nat_eq (unsigned_abs x.top) 0) refl
  where
    by : (b : Bool) → nat_eq (unsigned_abs x.top) 0 ≡ b → let d =
        cond b none (spelled_by x (exponent_below x 800 (pos 400))) in
        is_multiple x d.exponent ≡ true → decimal_value d.mantissa d.exponent ≡ x
    by true e h = zero_decimal (pos 0) ∙ sym (zero_top x (same_in x.top (pos 0) (omega (arith, abs_is x.top, eqb-true _ _ e))))
    by false e h = spelled_value x (exponent_below x 800 (pos 400)) h

spelled_in : (m e : ℤ) → IsDec m e → is_spelled m e ≡ true
spelled_in m e dec = ⊎_elim zero_case other (cases_eq (unsigned_abs m % 10) 0)
  where
    zero_case : unsigned_abs m % 10 ≡ 0 → is_spelled m e ≡ true
    zero_case z =
        let both = dec.shortest z in
        ap₂ (λ a b. is_spelled a b) both.0 both.1

    other : unsigned_abs m % 10 ≢ 0 → is_spelled m e ≡ true
    other odd = or_right _ _ (and_from _ _ (and_from _ _ (small_of _ dec.mantissa) (le-leb _ _ dec.exponent)) (ap not (ne_eqb _ _ odd)))

pub fits_dec_in : (x : ℚ) → FitsDec x → fits_dec x ≡ true
unfolding fits_dec
fits_dec_in x f = subst (λ y. (is_spelled (decimal_of y).mantissa (decimal_of y).exponent && is_multiple y (decimal_of y).exponent) ≡ true) f.same
    (subst (λ d. (is_spelled d.mantissa d.exponent && is_multiple (decimal_value f.m f.e) d.exponent) ≡ true) (sym (decimal_of-decimal f.m f.e f.dec))
    (and_from _ _ (spelled_in f.m f.e f.dec) (multiple_at (decimal_value f.m f.e) f.m f.e (decimal_is f.m f.e))))

pub fits_dec-value : (x : ℚ) → fits_dec x ≡ true → decimal_value (decimal_of x).mantissa (decimal_of x).exponent ≡ x
unfolding fits_dec
fits_dec-value x h = value_of_spelling x (second_of_both _ _ h)

pub fits_dec_out : (x : ℚ) → fits_dec x ≡ true → FitsDec x
fits_dec_out x h =
    record {
      m = (decimal_of x).mantissa;
      e = (decimal_of x).exponent;
      dec = spelled_of x h;
      same = fits_dec-value x h;
    }
