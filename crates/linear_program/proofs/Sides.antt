-- A side alone: a number is not below it, or not above it.
use Rattle.std.proofs.Common.{Option, IfSome}
use Rattle.exact_numbers.specs.Rational.{ℚ, ◌≤ℚ◌}

abbrev pub AtLeast : Option ℚ → ℚ → Type 0
AtLeast side x = IfSome side (λ l. l ≤ℚ x)

abbrev pub AtMost : Option ℚ → ℚ → Type 0
AtMost side x = IfSome side (λ u. x ≤ℚ u)
