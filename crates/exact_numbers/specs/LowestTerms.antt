-- Rational numbers without bound: pairs in lowest terms, so that equal values are one number.
use Rattle.std.specs.Prelude.{ℕ, ◌<◌, ℤ, unsigned_abs}
use Rattle.exact_numbers.specs.Divisors.{AreCoprime}

-- a rational number: top / bottom in lowest terms; `above` and `lowest` are proofs of that
pub record ℚ : Type 0 where
  pub top : ℤ
  pub bottom : ℕ
  pub above : 0 < bottom
  pub lowest : AreCoprime (unsigned_abs top) bottom
