-- Differences of rational numbers.
use Rattle.std.proofs.Common.{subst}
use Rattle.exact_numbers.specs.Rational.{ℚ, zero_ℚ, neg_ℚ, ◌≤ℚ◌}
use Rattle.exact_numbers.proofs.RationalLaws.{neg-≤ℚ, neg_zero}

pub neg_below : (x : ℚ) → zero_ℚ ≤ℚ x → neg_ℚ x ≤ℚ zero_ℚ
neg_below x h = subst (λ z. neg_ℚ x ≤ℚ z) neg_zero (neg-≤ℚ zero_ℚ x h)

pub neg_above : (x : ℚ) → x ≤ℚ zero_ℚ → zero_ℚ ≤ℚ neg_ℚ x
neg_above x h = subst (λ z. z ≤ℚ neg_ℚ x) neg_zero (neg-≤ℚ x zero_ℚ h)
