-- Which numbers, and which sums, stay within fractions of 128 bits (own profile).
use Rattle.std.specs.Prelude.{ℕ, ◌/◌, ◌^◌, ℤ, pos, ◌+ℤ◌, ◌*ℤ◌, unsigned_abs, Bool, ◌&&◌, nat_lt}
use Rattle.exact_numbers.specs.Divisors.{IsLcm}
use Rattle.exact_numbers.specs.LowestLemmas.{a_least_multiple}
use Rattle.exact_numbers.specs.Rational.{ℚ}

-- below 2 ^ 127
abbrev pub is_small : ℕ → Bool
is_small k = nat_lt k (2 ^ 127)

-- numerator and denominator in lowest terms are small
abbrev pub fits : ℚ → Bool
fits x = is_small (unsigned_abs x.top) && is_small x.bottom

-- the least common multiple
abbrev pub least_multiple : ℕ → ℕ → ℕ
least_multiple a b = (let it : (m : ℕ) × IsLcm a b m = a_least_multiple a b in it.0)

-- a common denominator, two numerators over it and their sum are small
abbrev pub parts_fit : ℕ → ℤ → ℤ → Bool
parts_fit m p q =
    is_small m && is_small (unsigned_abs p) && is_small (unsigned_abs q)
    && is_small (unsigned_abs (p +ℤ q))

abbrev pub sum_over_multiple : ℕ → ℚ → ℚ → Bool
sum_over_multiple m x y = parts_fit m (x.top *ℤ pos (m / x.bottom)) (y.top *ℤ pos (m / y.bottom))

-- the sum over the least common denominator, before it is reduced
abbrev pub sum_fits : ℚ → ℚ → Bool
sum_fits x y = sum_over_multiple (least_multiple x.bottom y.bottom) x y
