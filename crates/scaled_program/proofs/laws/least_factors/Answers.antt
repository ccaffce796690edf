use Rattle.scaled_program.proofs.Factor.{least_factor_is_least, factor_multiples, only_cofactor}
use Rattle.scaled_program.proofs.laws.least_factors.Goals as goal

pub returns-clause-least : goal.returns-clause-least
returns-clause-least c = least_factor_is_least

pub returns-clause-multiples : goal.returns-clause-multiples
returns-clause-multiples c = factor_multiples

pub returns-clause-cofactor : goal.returns-clause-cofactor
returns-clause-cofactor c = only_cofactor
