-- The numbers that the test of a spelling accepts are those of a Dec, and those that fit of a Frac.
use Rattle.std.specs.Prelude.{◌≡◌, ◌≢◌, refl, ℕ, suc, ◌%◌, ◌^◌, ℤ, pos, negsuc, unsigned_abs, Bool, true, false, ◌&&◌, ◌||◌, not, nat_eq, nat_le}
use Rattle.std.proofs.Common.{sym, ap, subst, arith}
use Rattle.std.proofs.lemmas.Bool.{ltb-true, leb-true, eqb-true}
use Rattle.std.proofs.lemmas.Bool.Decides.{nat_tests}
use Rattle.exact_numbers.specs.Rational.{ℚ}
use Rattle.exact_numbers.specs.Decimal.{IsDec}
use Rattle.exact_numbers.specs.Fraction.{IsFrac}
use Rattle.exact_numbers.specs.Values.{is_small, fits, is_spelled, decimal_of, fits_dec}

pub first_of_both : (a b : Bool) → (a && b) ≡ true → a ≡ true
first_of_both true b e = refl
first_of_both false b e = e

pub second_of_both : (a b : Bool) → (a && b) ≡ true → b ≡ true
second_of_both true b e = e
second_of_both false b e = absurd cc

no_size : (z : ℤ) → nat_eq (unsigned_abs z) 0 ≡ true → z ≡ pos 0
no_size (pos n) e = ap pos (eqb-true n 0 e)
no_size (negsuc n) e = absurd (let none = eqb-true (suc n) 0 e in omega arith)

is_odd : (n : ℕ) → not (nat_eq n 0) ≡ true → n ≢ 0
is_odd n e z = grind (arith, nat_tests)

pub spelled_dec : (m e : ℤ) → is_spelled m e ≡ true → IsDec m e
spelled_dec m e = by (nat_eq (unsigned_abs m) 0 && nat_eq (unsigned_abs e) 0) refl
  where
    zero_dec : IsDec (pos 0) (pos 0)
    zero_dec =
        record { mantissa = omega arith; exponent = omega arith; shortest = λ z. (refl, refl) }

    other : Bool
    other =
        is_small (unsigned_abs m) && nat_le (unsigned_abs e) 400
        && not (nat_eq (unsigned_abs m % 10) 0)

    by : (b : Bool) → (nat_eq (unsigned_abs m) 0 && nat_eq (unsigned_abs e) 0) ≡ b
        → (b || other) ≡ true → IsDec m e
    by true both h =
        subst (λ k. IsDec m k) (sym (no_size e (second_of_both _ _ both)))
        (subst (λ k. IsDec k (pos 0)) (sym (no_size m (first_of_both _ _ both))) zero_dec)
    by false both h =
        let sizes = first_of_both _ _ h in
        record {
          mantissa = ltb-true _ _ (first_of_both _ _ sizes);
          exponent = leb-true _ _ (second_of_both _ _ sizes);
          shortest = λ z. absurd (is_odd _ (second_of_both _ _ h) z);
        }

-- so the one spelling of a value that passes the test is that of a Dec
pub spelled_of : (x : ℚ) → fits_dec x ≡ true → IsDec (decimal_of x).mantissa (decimal_of x).exponent
unfolding fits_dec
spelled_of x fits = spelled_dec _ _ (first_of_both _ _ fits)

-- a value that fits is that of a Frac
pub fitted : (x : ℚ) → fits x ≡ true → IsFrac x.top x.bottom
fitted x h =
    record {
      size = ltb-true (unsigned_abs x.top) (2 ^ 127) (first_of_both _ _ h);
      above = x.above;
      small = ltb-true x.bottom (2 ^ 127) (second_of_both _ _ h);
      reduced = x.lowest;
    }
