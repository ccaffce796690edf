use Rattle.exact_numbers.proofs.Extremes.{absolute_is}
use Rattle.exact_numbers.proofs.fraction_laws.absolute_values.Goals as goal

pub returns-clause-one : goal.returns-clause-one
returns-clause-one c = λ x. (absolute_is x).one

pub returns-clause-above : goal.returns-clause-above
returns-clause-above c = λ x. (absolute_is x).above
