-- Powers, least and greatest, whole parts and absolute values.
use Rattle.std.specs.Prelude.{ℕ, zero, suc, ℤ, pos, negsuc, ◌+ℤ◌, ◌*ℤ◌, int_lt, Bool, ◌==◌, if◌then◌else◌, nat_lt, List, [], ◌∷◌, Option, Some, None}
use Rattle.exact_numbers.specs.Rational.{ℚ, zero_ℚ, one_ℚ, whole, ◌*ℚ◌, neg_ℚ, ◌≤ℚ◌, ◌<ℚ◌}
pub use Rattle.exact_numbers.specs.Rational.{is_zero}
use Rattle.exact_numbers.specs.FloorLemmas.{a_floor}

-- the number, and 0 where there is none
abbrev pub or_zero : Option ℚ → ℚ
or_zero None = zero_ℚ
or_zero (Some x) = x

-- x to the n; x to the 0 is 1
unfoldable pub power_of : ℚ → ℕ → ℚ
power_of x zero = one_ℚ
power_of x (suc n) = x *ℚ power_of x n

-- the number as an exponent: whole, and from 0 to 127, a bound of this project's own
abbrev pub small_exponent : ℤ → Option ℕ
small_exponent (pos n) = (if nat_lt n 128 then Some n else None)
small_exponent (negsuc n) = None

abbrev pub exponent_of : ℚ → Option ℕ
exponent_of x = (if x.bottom == 1 then small_exponent x.top else None)

-- whether x <ℚ y
abbrev pub is_smaller : ℚ → ℚ → Bool
is_smaller x y = int_lt (x.top *ℤ pos y.bottom) (y.top *ℤ pos x.bottom)

unfoldable pub lesser_of : ℚ → ℚ → ℚ
lesser_of x y = (if is_smaller y x then y else x)

unfoldable pub greater_of : ℚ → ℚ → ℚ
greater_of x y = (if is_smaller x y then y else x)

-- the least, and the greatest, of a number and those of a list
unfoldable pub least_of : ℚ → List ℚ → ℚ
least_of x [] = x
least_of x (y ∷ ys) = least_of (if is_smaller y x then y else x) ys

unfoldable pub greatest_of : ℚ → List ℚ → ℚ
greatest_of x [] = x
greatest_of x (y ∷ ys) = greatest_of (if is_smaller x y then y else x) ys

-- the whole number z with z ≤ x < z + 1
unfoldable pub floor_of : ℚ → ℚ
floor_of x =
    let it : (z : ℤ) × (whole z ≤ℚ x) × (x <ℚ whole (z +ℤ pos 1)) = a_floor x in whole it.0

-- the least whole number that is at least x: -z, where z is the greatest that is at most -x
unfoldable pub ceiling_of : ℚ → ℚ
ceiling_of x = neg_ℚ (floor_of (neg_ℚ x))

-- x, or -x where x is below 0
unfoldable pub absolute_of : ℚ → ℚ
absolute_of x = (if is_smaller x zero_ℚ then neg_ℚ x else x)
