use Rattle.exact_numbers.proofs.Extremes.{least_law, greatest_law}
use Rattle.exact_numbers.proofs.fraction_laws.least_and_greatest.Goals as goal

pub returns-clause-least : goal.returns-clause-least
returns-clause-least c = least_law

pub returns-clause-greatest : goal.returns-clause-greatest
returns-clause-greatest c = greatest_law
