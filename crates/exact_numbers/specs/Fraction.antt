-- What a Frac holds, and divisors prime to ten.
use Prim.Native.Nat.{◌∣◌}
use Rattle.std.specs.Prelude.{ℕ, ◌<◌, ◌^◌, ℤ, unsigned_abs}
use Rattle.exact_numbers.specs.Divisors.{AreCoprime}
pub use Rattle.exact_numbers.specs.Divisors.{IsLcm}

-- the numbers of a Frac: in lowest terms and in range
pub record IsFrac (num : ℤ) (den : ℕ) : Type 0 where
  pub size : unsigned_abs num < 2 ^ 127
  pub above : 0 < den
  pub small : den < 2 ^ 127
  pub reduced : AreCoprime (unsigned_abs num) den

-- c is the greatest divisor of n that is prime to 10
abbrev pub IsCofactor : ℕ → ℕ → Type 0
IsCofactor n c = (c ∣ n) × AreCoprime c 10 × ((d : ℕ) → d ∣ n → AreCoprime d 10 → d ∣ c)
