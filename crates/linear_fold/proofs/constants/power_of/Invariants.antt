use Rattle.std.proofs.Common.{◌≡◌}
use Rattle.exact_numbers.specs.Values.{frac_value}
use Rattle.exact_numbers.specs.Functions.{power_of}
use Rattle.linear_fold.proofs.constants.power_of.Given as goal

abbrev pub invariant-loop : goal.invariant-loop
invariant-loop l = record { power_is : frac_value l.power ≡ power_of (frac_value l.x) l.counter }
