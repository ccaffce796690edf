use Rattle.exact_numbers.specs.Values.{frac_value}
use Rattle.linear_fold.proofs.ConstantLemmas.{power_wide}
use Rattle.linear_fold.proofs.constants.power_of.Goals as goal

pub returns-in-None : goal.returns-in-None
returns-in-None c = power_wide (frac_value c.args.x) c.loop.counter c.args.n (frac_value c.loop.power) c.loop-test.true c.loop.invariant.power_is c.in-None.ensures
