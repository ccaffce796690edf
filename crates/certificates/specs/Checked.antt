-- Exact arithmetic within 128 bits: a value, or none where it does not fit.
use Rattle.std.specs.Prelude.{ℕ, zero, suc, pos, ◌*ℤ◌, int_le, Bool, ◌&&◌, if◌then◌else◌, Option, Some, None, option_and_then}
use Rattle.exact_numbers.specs.Fits.{fits, sum_fits}
use Rattle.exact_numbers.specs.Rational.{ℚ, ◌+ℚ◌, ◌*ℚ◌, ◌-ℚ◌, neg_ℚ}

abbrev pub fitting : ℚ → Option ℚ
fitting x = if fits x then Some x else None

abbrev pub fitting_sum : ℚ → ℚ → Option ℚ
fitting_sum x y = if sum_fits x y then Some (x +ℚ y) else None

abbrev pub fitting_difference : ℚ → ℚ → Option ℚ
fitting_difference x y = if sum_fits x (neg_ℚ y) then Some (x -ℚ y) else None

abbrev pub fitting_product : ℚ → ℚ → Option ℚ
fitting_product x y = fitting (x *ℚ y)

-- s + a * v
unfoldable pub plus_product : ℚ → ℚ → ℚ → Option ℚ
plus_product s a v = option_and_then (λ p. fitting_sum s p) (fitting_product a v)

-- s - a * v
unfoldable pub less_product : ℚ → ℚ → ℚ → Option ℚ
less_product s a v = option_and_then (λ p. fitting_difference s p) (fitting_product a v)

-- the steps 0, .., n - 1 in turn, from a start
unfoldable pub run : (ℚ → ℕ → Option ℚ) → ℚ → ℕ → Option ℚ
run step start zero = Some start
run step start (suc n) = option_and_then (λ s. step s n) (run step start n)

-- x ≤ y
unfoldable pub is_at_most : ℚ → ℚ → Bool
is_at_most x y = int_le (x.top *ℤ pos y.bottom) (y.top *ℤ pos x.bottom)

unfoldable pub is_same : ℚ → ℚ → Bool
is_same x y = is_at_most x y && is_at_most y x
