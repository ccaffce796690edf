use Rattle.exact_numbers.specs.Values.{frac_value}
use Rattle.exact_numbers.proofs.Zeros.{zero_first, zero_second}
use Rattle.exact_numbers.proofs.frac.Frac.add.Goals as goal

pub returns-then-is_zero : goal.returns-then-is_zero
returns-then-is_zero c = zero_first (frac_value c.args.self) c.args.other (c.is_zero.ensures.0 c.if-is_zero.true)

pub returns-then-is_zero-2 : goal.returns-then-is_zero-2
returns-then-is_zero-2 c = zero_second c.args.self (frac_value c.args.other) (c.is_zero-2.ensures.0 c.if-is_zero-2.true)
