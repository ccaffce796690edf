use Rattle.exact_numbers.proofs.Extremes.{power_of-zero, power_of-suc}
use Rattle.exact_numbers.proofs.fraction_laws.powers.Goals as goal

pub returns-clause-none : goal.returns-clause-none
returns-clause-none c = power_of-zero

pub returns-clause-one_more : goal.returns-clause-one_more
returns-clause-one_more c = power_of-suc
