use Rattle.exact_numbers.proofs.RationalLaws.{quotient_none, quotient_there}
use Rattle.exact_numbers.proofs.fraction_laws.quotients.Goals as goal

pub returns-clause-missing : goal.returns-clause-missing
returns-clause-missing c = quotient_none

pub returns-clause-there : goal.returns-clause-there
returns-clause-there c = quotient_there
