use Rattle.exact_numbers.proofs.Spelling.{fits_dec_in, fits_dec_out}
use Rattle.exact_numbers.proofs.laws.test_of_decimals.Goals as goal

pub returns : goal.returns
returns c x = (fits_dec_out x, fits_dec_in x)
