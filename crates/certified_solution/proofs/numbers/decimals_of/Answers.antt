use Rattle.certified_solution.proofs.Decimals.{all_found, one_without}
use Rattle.certified_solution.proofs.numbers.decimals_of.Goals as goal

pub returns-in_default : goal.returns-in_default
returns-in_default c = one_without c.args.numbers.now c.numbers.decimals c.numbers.number-index c.number-item.result c.numbers.invariant c.numbers-test.true c.number-item.is c.in_default.ensures

pub returns : goal.returns
returns c = all_found c.args.numbers.now c.numbers.decimals c.numbers.number-index c.numbers.invariant c.numbers-test.false
