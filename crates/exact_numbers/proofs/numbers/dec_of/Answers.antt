use Rattle.std.proofs.Common.{sym}
use Rattle.exact_numbers.proofs.NumberLemmas.{dec_of-some, dec_of-none}
use Rattle.exact_numbers.proofs.numbers.dec_of.Goals as goal

pub returns-in-Ok : goal.returns-in-Ok
returns-in-Ok c = sym (dec_of-some _ _ c.in-Ok.ensures.0 c.in-Ok.ensures.1)

pub returns-in-Err : goal.returns-in-Err
returns-in-Err c = sym (dec_of-none _ _ c.in-Err.ensures)
