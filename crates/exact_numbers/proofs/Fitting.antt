-- Numbers that a Dec has.
use Rattle.std.proofs.Common.{◌≡◌, ◌∙◌, ℕ, zero, suc, ◌*◌, ◌^◌, ◌<◌, ◌%◌, ◌≢◌, ℤ, pos, negsuc, neg_ℤ, unsigned_abs, int_lt, Option, Some, None, true, false, refl, sym, ap, subst, arith}
use Rattle.std.specs.Prelude.{MatchOption, unwrap_or}
use Rattle.std.proofs.lemmas.Int.{ints}
use Rattle.exact_numbers.specs.Rational.{ℚ, decimal_value, whole, zero_ℚ, one_ℚ, neg_ℚ}
use Rattle.exact_numbers.proofs.RationalLaws.{neg_size}
use Rattle.exact_numbers.specs.Decimal.{signed}
use Rattle.exact_numbers.specs.Values.{FitsDec, dec_value, fits_dec}
use Rattle.exact_numbers.specs.Numbers.{dec_from}
use Rattle.exact_numbers.proofs.NumberLemmas.{dec_from-fits}
use Rattle.exact_numbers.proofs.Spelling.{fits_dec_in}
use Rattle.exact_numbers.proofs.Bridge.{decimal-neg}
use Rattle.exact_numbers.specs.declared.dec.Dec.{Dec}
use Rattle.exact_numbers.proofs.Bridge.{decimal_is, same_dec_value}
use Rattle.exact_numbers.proofs.Decimals.{is_dec, shortest_of, signed_moved}
use Rattle.exact_numbers.proofs.Fractions.{signed_self}
use Rattle.exact_numbers.proofs.Signs.{decimal_whole}
use Rattle.exact_numbers.proofs.Tens.{few_zeros, ten-pos}

pub dec_fits : (d : Dec) → FitsDec (dec_value d)
dec_fits d = record { m = d.m; e = d.e; dec = d.spelled; same = refl }

zero_dec : Dec
zero_dec = record { m = pos 0; e = pos 0; spelled = record { mantissa = omega arith; exponent = omega arith; shortest = λ h. (refl, refl) } }

pub zero_fits : FitsDec zero_ℚ
unfolding zero_dec
zero_fits = record { m = pos 0; e = pos 0; dec = zero_dec.spelled; same = decimal_whole (pos 0) }

stripped : (n : ℕ) (z : ℤ) → unsigned_abs z ≡ n → 0 < n → n < 2 ^ 127 → FitsDec (whole z)
stripped n z size some small =
    let s = shortest_of n some in
    let negative = int_lt z (pos 0) in
    let above : 0 < s.rest = odd_above s.rest s.odd in
    let few : s.zeros < 39 = few_zeros n s.rest s.zeros 39 above s.whole (omega arith) in
    let rest_le : s.rest < 2 ^ 127 = below n s.rest s.zeros s.whole small in
    let self : signed negative n ≡ z = ap (signed negative) (sym size) ∙ signed_self z in
    record {
      m = signed negative s.rest;
      e = pos s.zeros;
      dec = is_dec negative (signed negative s.rest) (pos s.zeros) s.rest refl s.odd rest_le (omega (arith, ints)) (omega (arith, ints));
      same = same_dec_value (signed negative s.rest) (pos s.zeros) (decimal_value (signed negative n) (pos 0)) _
          (decimal_is (signed negative n) (pos 0)) (signed_moved negative s.rest n s.zeros (pos 0) (pos s.zeros) s.whole
          (omega (arith, ints)))
          ∙ ap (λ y. decimal_value y (pos 0)) self ∙ decimal_whole z;
    }
  where
    odd_above : (r : ℕ) → r % 10 ≢ 0 → 0 < r
    odd_above zero h = absurd (h refl)
    odd_above (suc r) h = omega arith

    below : (n r k : ℕ) → n ≡ r * 10 ^ k → n < 2 ^ 127 → r < 2 ^ 127
    below n r k e h = grind (arith, ten-pos k)

-- a whole number of 127 bits
pub whole_fits : (z : ℤ) → unsigned_abs z < 2 ^ 127 → FitsDec (whole z)
whole_fits (pos zero) h = zero_fits
whole_fits (pos (suc n)) h = stripped (suc n) (pos (suc n)) refl (omega arith) h
whole_fits (negsuc n) h = stripped (suc n) (negsuc n) refl (omega arith) h

pub neg_fits : (x : ℚ) → FitsDec x → FitsDec (neg_ℚ x)
neg_fits x f = record {
  m = neg_ℤ f.m;
  e = f.e;
  dec = record {
    mantissa = subst (λ n. n < 2 ^ 127) (sym (neg_size f.m)) f.dec.mantissa;
    exponent = f.dec.exponent;
    shortest = λ h. let z = f.dec.shortest (ap (λ n. n % 10) (sym (neg_size f.m)) ∙ h) in (ap neg_ℤ z.0, z.1);
  };
  same = decimal-neg f.m f.e ∙ ap neg_ℚ f.same;
}

-- the Dec of a number, and 0 where it has none
pub picked : ℚ → Dec
picked x = unwrap_or (dec_from x) zero_dec

pub picked_value : (x : ℚ) → FitsDec x → dec_value (picked x) ≡ x
unfolding picked
picked_value x f = by (dec_from x) (dec_from-fits x)
  where
    by : (o : Option Dec) → MatchOption o (fits_dec x ≡ false) (λ d. (fits_dec x ≡ true) × (dec_value d ≡ x)) → dec_value (unwrap_or o zero_dec) ≡ x
    by None e = let t = fits_dec_in x f in absurd cc
    by (Some d) e = e.1

pub one_fits : FitsDec one_ℚ
one_fits = whole_fits (pos 1) (omega arith)
