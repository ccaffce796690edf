-- The least factor is the least common multiple of the cofactors.
use Prim.Native.Nat.{◌∣◌}
use Rattle.std.proofs.Common.{ℕ, ◌<◌, ◌↔◌, pos, List, All}
use Rattle.exact_numbers.specs.Rational.{ℚ, whole, ◌*ℚ◌}
use Rattle.scaled_program.specs.Factor.{IsFinite, IsLeastFactor, least_factor}
use Rattle.scaled_program.specs.FactorLemmas.{steps_above, steps_multiples, steps_are_least}
pub use Rattle.scaled_program.specs.FactorLemmas.{is_lcm, cofactor_above, finite_multiple, only_cofactor}

pub factor_above : (xs : List ℚ) → 0 < least_factor xs
unfolding least_factor
factor_above xs = steps_above xs

-- the factors are the multiples of the least one
pub factor_multiples : (xs : List ℚ) (k : ℕ) → All (λ x. IsFinite (whole (pos k) *ℚ x)) xs ↔ (least_factor xs ∣ k)
unfolding least_factor
factor_multiples xs k = steps_multiples xs k

pub least_factor_is_least : (xs : List ℚ) → IsLeastFactor xs (least_factor xs)
unfolding least_factor
least_factor_is_least xs = steps_are_least xs
