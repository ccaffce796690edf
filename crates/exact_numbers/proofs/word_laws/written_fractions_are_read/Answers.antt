use Rattle.exact_numbers.proofs.Written.{fraction_read}
use Rattle.exact_numbers.proofs.word_laws.written_fractions_are_read.Goals as goal

pub returns : goal.returns
returns c = fraction_read
