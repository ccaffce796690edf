use Rattle.exact_numbers.specs.Rational.{zero_ℚ}
use Rattle.exact_numbers.proofs.NumberLemmas.{dec_from-value}
use Rattle.mps_words.proofs.bound_words.no_number.Goals as goal

pub returns : goal.returns
returns c = dec_from-value zero_ℚ c.zero.result c.zero.ensures
