-- Factors that make fractions finite decimals.
use Rattle.std.specs.Prelude.{◌≡◌, ℕ, ◌<◌, ◌≤◌, ℤ, pos, List, All}
use Rattle.exact_numbers.specs.Rational.{ℚ, whole, ◌*ℚ◌, decimal_value}

-- x = m * 10 ^ e
pub record IsFinite (x : ℚ) : Type 0 where
  pub m : ℤ
  pub e : ℤ
  pub same : x ≡ decimal_value m e

-- k times each number is a finite decimal
pub record IsFactor (xs : List ℚ) (k : ℕ) : Type 0 where
  pub above : 0 < k
  pub finite : All (λ x. IsFinite (whole (pos k) *ℚ x)) xs

-- no lesser number is a factor
pub record IsLeastFactor (xs : List ℚ) (k : ℕ) : Type 0 where
  pub factor : IsFactor xs k
  pub least : (l : ℕ) → IsFactor xs l → k ≤ l
