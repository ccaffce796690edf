-- The exact numbers that a Dec and a Frac are, and which numbers they hold.
use Rattle.std.specs.Ordering.{int_cmp}
use Rattle.std.specs.declared.cmp.Ordering.{Ordering}
use Rattle.std.specs.Prelude.{◌≡◌, ℕ, zero, suc, ◌*◌, ◌%◌, ◌<◌, ◌^◌, ℤ, pos, negsuc, ◌*ℤ◌, ◌-ℤ◌, neg_ℤ, unsigned_abs, int_div, Bool, true, false, ◌&&◌, ◌||◌, not, nat_eq, nat_le, if◌then◌else◌, List, Option, MatchOption, ◌⊎◌}
use Rattle.exact_numbers.specs.Rational.{ℚ, over, whole, ◌*ℚ◌, decimal_value, above_zero, below_zero}
pub use Rattle.exact_numbers.specs.Fits.{is_small, fits, least_multiple, parts_fit, sum_over_multiple, sum_fits}
use Rattle.exact_numbers.specs.Decimal.{IsDec}
use Rattle.exact_numbers.specs.Written.{dec_text}
use Rattle.exact_numbers.specs.declared.dec.Dec.{Dec}
use Rattle.exact_numbers.specs.declared.frac.Frac.{Frac}

-- m * 10 ^ e
abbrev pub dec_value : Dec → ℚ
dec_value d = decimal_value d.m d.e

-- m and e, and their one written text
abbrev pub mantissa_of : Dec → ℤ
mantissa_of d = d.m

abbrev pub exponent_of : Dec → ℤ
exponent_of d = d.e

abbrev pub text_of : Dec → List ℕ
text_of d = dec_text d.m d.e

-- num / den
abbrev pub frac_value : Frac → ℚ
frac_value f =
    record { top = f.num; bottom = f.den; above = f.spelled.above; lowest = f.spelled.reduced }

-- some Dec has the value x
pub record FitsDec (x : ℚ) : Type 0 where
  pub m : ℤ
  pub e : ℤ
  pub dec : IsDec m e
  pub same : decimal_value m e ≡ x

-- the product of d and k is in reach: the product of the mantissa and k is in range, and some Dec
-- has the value
pub record IsInReach (d : Dec) (k : ℤ) : Type 0 where
  pub size : unsigned_abs (d.m *ℤ k) < 2 ^ 127
  pub dec : FitsDec (dec_value d *ℚ whole k)

-- the answer is x where the test holds, and none where it does not
abbrev pub IsFracWhere : Bool → Option Frac → ℚ → Type 0
IsFracWhere test result x =
    MatchOption result (test ≡ false) (λ f. (test ≡ true) × (frac_value f ≡ x))

-- the answer is x, and none exactly where x does not fit
abbrev pub IsFracOf : Option Frac → ℚ → Type 0
IsFracOf result x = IsFracWhere (fits x) result x

-- the answer is x, and none exactly where the divisor is 0 or x does not fit
abbrev pub IsQuotientOf : Type 0 → Option Frac → ℚ → Type 0
IsQuotientOf is_zero result x =
    MatchOption result (is_zero ⊎ (fits x ≡ false))
    (λ f. (is_zero → ⊥) × (fits x ≡ true) × (frac_value f ≡ x))

-- the answer is x, and none exactly where no Dec has the value
abbrev pub IsDecOf : Option Dec → ℚ → Type 0
IsDecOf result x = MatchOption result (FitsDec x → ⊥) (λ d. dec_value d ≡ x)

-- num / den, where den is not 0
abbrev pub quotient : ℤ → ℤ → ℚ
quotient num (pos d) = over num d
quotient num (negsuc d) = over (neg_ℤ num) (suc d)

-- the order of x and y, crosswise
abbrev pub order_of : ℚ → ℚ → Ordering
order_of x y = int_cmp (x.top *ℤ pos y.bottom) (y.top *ℤ pos x.bottom)

-- a mantissa and an exponent of ten
pub record Decimal : Type 0 where
  pub mantissa : ℤ
  pub exponent : ℤ

-- x is a whole multiple of 10 ^ e
abbrev pub is_multiple : ℚ → ℤ → Bool
is_multiple x e =
    nat_eq ((unsigned_abs x.top * 10 ^ below_zero e) % (x.bottom * 10 ^ above_zero e)) 0

-- the whole part of x / 10 ^ e
abbrev pub mantissa_at : ℚ → ℤ → ℤ
mantissa_at x e = int_div (x.top *ℤ pos (10 ^ below_zero e)) (pos (x.bottom * 10 ^ above_zero e))

-- the first of e, e - 1, .., e - n whose power of ten x is a whole multiple of, or else e - n
unfoldable pub exponent_below : ℚ → ℕ → ℤ → ℤ
exponent_below x zero e = e
exponent_below x (suc n) e = if is_multiple x e then e else exponent_below x n (e -ℤ pos 1)

-- the one spelling of a decimal number: the exponent is the greatest from 400 to -400; zero is
-- (0, 0)
unfoldable pub decimal_of : ℚ → Decimal
decimal_of x =
    let e = exponent_below x 800 (pos 400) in
    if nat_eq (unsigned_abs x.top) 0
    then record { mantissa = pos 0; exponent = pos 0 }
    else record { mantissa = mantissa_at x e; exponent = e }

-- the written text of a decimal number
abbrev pub value_text : ℚ → List ℕ
value_text x = dec_text (decimal_of x).mantissa (decimal_of x).exponent

-- the numbers are those of a Dec: zero is (0, 0), and any other mantissa does not end in 0
abbrev pub is_spelled : ℤ → ℤ → Bool
is_spelled m e =
    (nat_eq (unsigned_abs m) 0 && nat_eq (unsigned_abs e) 0)
    || (is_small (unsigned_abs m) && nat_le (unsigned_abs e) 400
    && not (nat_eq (unsigned_abs m % 10) 0))

-- some Dec has the value x, by a test of its spelling
unfoldable pub fits_dec : ℚ → Bool
fits_dec x =
    is_spelled (decimal_of x).mantissa (decimal_of x).exponent
    && is_multiple x (decimal_of x).exponent
