-- The value and the faults of the example.
use Rattle.std.proofs.Common.{◌≡◌, ap, refl, pos, negsuc, Some, []}
use Rattle.exact_numbers.specs.LowestLemmas.{gcd_of, steps_of_euclid}
use Rattle.exact_numbers.specs.Functions.{power_of, lesser_of, least_of, floor_of, ceiling_of}
use Rattle.exact_numbers.specs.Rational.{over, whole, ◌+ℚ◌, ◌*ℚ◌, ◌-ℚ◌, neg_ℚ, decimal_value}
use Rattle.exact_numbers.proofs.Values.{same_parts}
use Rattle.nl_model.specs.declared.fault.Reason.TheVariants.{Nonlinear, TooWide, RefusedPower}
use Rattle.nl_model.specs.Example.{power_and_least}
use Rattle.nl_model.specs.Faults.{first_fault}
use Rattle.linear_program.specs.Lines.{Point}
use Rattle.nl_model.specs.Trees.{number, variable, tree_value}

pub example_value : (at : Point) → tree_value [] (power_and_least (number (pos 15) (negsuc 0)) (number (pos 3) (pos 0))) at ≡ Some (decimal_value (negsuc 3624) (negsuc 2))
unfolding gcd_of steps_of_euclid power_of lesser_of least_of floor_of ceiling_of over whole ◌+ℚ◌ ◌*ℚ◌ ◌-ℚ◌ neg_ℚ decimal_value
example_value at = ap Some (same_parts _ _ refl refl)

pub example_refused : first_fault 1 [] (power_and_least (number (pos 15) (negsuc 0)) (number (pos 5) (negsuc 0))) ≡ Some (record { place = 1; reason = RefusedPower })
unfolding gcd_of steps_of_euclid power_of lesser_of least_of floor_of ceiling_of over whole ◌+ℚ◌ ◌*ℚ◌ ◌-ℚ◌ neg_ℚ decimal_value
example_refused = refl

pub example_nonlinear : first_fault 1 [] (power_and_least (variable 0) (number (pos 3) (pos 0))) ≡ Some (record { place = 1; reason = Nonlinear })
unfolding gcd_of steps_of_euclid power_of lesser_of least_of floor_of ceiling_of over whole ◌+ℚ◌ ◌*ℚ◌ ◌-ℚ◌ neg_ℚ decimal_value
example_nonlinear = refl

pub example_too_wide : first_fault 1 [] (power_and_least (number (pos 1) (pos 1)) (number (pos 127) (pos 0))) ≡ Some (record { place = 1; reason = TooWide })
unfolding gcd_of steps_of_euclid power_of lesser_of least_of floor_of ceiling_of over whole ◌+ℚ◌ ◌*ℚ◌ ◌-ℚ◌ neg_ℚ decimal_value
example_too_wide = refl
