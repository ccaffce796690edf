-- Bounds of 2 ^ 127 or more in size decide by their sign.
use Rattle.std.proofs.Common.{◌≡◌, ℕ, zero, suc, ◌*◌, ◌<◌, ◌^◌, subst, arith, one-mul, ⊎_elim, true, ℤ, pos, negsuc, ◌<ℤ◌, neg_ℤ, unsigned_abs}
use Rattle.std.proofs.lemmas.Int.{ints}
use Rattle.std.proofs.lemmas.Bool.{and_parts, ltb-true}
use Rattle.exact_numbers.specs.Fits.{fits, is_small}
use Rattle.exact_numbers.specs.Rational.{ℚ, whole, neg_ℚ, ◌≤ℚ◌, ◌<ℚ◌}
use Rattle.exact_numbers.proofs.RationalLaws.{≤ℚ-<ℚ_trans, not_both, ≤ℚ_trans, le_or_lt}
use Rattle.exact_numbers.proofs.Values.{HasValue, neg_value, own_value, scaled_value, value_lt, whole_value}
use Rattle.certificates.specs.Certificate.{large}
use Rattle.certificates.specs.Checked.{is_at_most}
use Rattle.certificates.proofs.Checks.{at_most_yes}

small_times : (m n b : ℕ) → n < m → 0 < b → n < m * b
small_times m n zero h k = absurd (omega arith)
small_times m n (suc b) h k = omega (arith, h)

below_size : (t : ℤ) (k : ℕ) → unsigned_abs t < k → t <ℤ pos k
below_size (pos n) k h = omega (arith, ints, h)
below_size (negsuc n) k h = omega (arith, ints, h)

above_size : (t : ℤ) (k : ℕ) → unsigned_abs t < k → neg_ℤ (pos k) <ℤ t
above_size (pos n) k h = omega (arith, ints, h)
above_size (negsuc n) k h = omega (arith, ints, h)

-- m over the denominator of x
over_bottom : (m : ℕ) (x : ℚ) → HasValue (whole (pos m)) (pos (m * x.bottom)) x.bottom
over_bottom m x = subst (λ n. HasValue (whole (pos m)) (pos (m * x.bottom)) n) (one-mul x.bottom) (scaled_value x.bottom x.above (whole_value (pos m)))

below_whole : (m : ℕ) (x : ℚ) → unsigned_abs x.top < m → x <ℚ whole (pos m)
below_whole m x h = value_lt (own_value x) (over_bottom m x) (below_size x.top (m * x.bottom) (small_times m (unsigned_abs x.top) x.bottom h x.above))

above_whole : (m : ℕ) (x : ℚ) → unsigned_abs x.top < m → neg_ℚ (whole (pos m)) <ℚ x
above_whole m x h = value_lt (neg_value (over_bottom m x)) (own_value x) (above_size x.top (m * x.bottom) (small_times m (unsigned_abs x.top) x.bottom h x.above))

small_top : (x : ℚ) → fits x ≡ true → unsigned_abs x.top < 2 ^ 127
small_top x h = ltb-true (unsigned_abs x.top) (2 ^ 127) (and_parts (is_small (unsigned_abs x.top)) (is_small x.bottom) h).0

<ℚ-≤ℚ_trans : (x y z : ℚ) → x <ℚ y → y ≤ℚ z → x <ℚ z
<ℚ-≤ℚ_trans x y z h k = ⊎_elim (λ l. absurd (not_both y x (≤ℚ_trans y z x k l) h)) (λ l. l) (le_or_lt z x)

pub large_above : (x s : ℚ) → fits x ≡ true → is_at_most large s ≡ true → x <ℚ s
large_above x s h k = <ℚ-≤ℚ_trans x large s (below_whole (2 ^ 127) x (small_top x h)) (at_most_yes large s k)

pub large_below : (x s : ℚ) → fits x ≡ true → is_at_most s (neg_ℚ large) ≡ true → s <ℚ x
large_below x s h k = ≤ℚ-<ℚ_trans s (neg_ℚ large) x (at_most_yes s (neg_ℚ large) k) (above_whole (2 ^ 127) x (small_top x h))
