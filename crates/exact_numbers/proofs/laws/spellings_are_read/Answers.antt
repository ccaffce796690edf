use Rattle.exact_numbers.proofs.Reading.{is_reading}
use Rattle.exact_numbers.proofs.laws.spellings_are_read.Goals as goal

pub returns-clause-text : goal.returns-clause-text
returns-clause-text c d = (is_reading d.m d.e d.spelled).is

pub returns-clause-value : goal.returns-clause-value
returns-clause-value c d = (is_reading d.m d.e d.spelled).value
