use Rattle.std.proofs.Common.{sym}
use Rattle.exact_numbers.proofs.NumberLemmas.{whole_of-some, whole_of-none}
use Rattle.exact_numbers.proofs.numbers.whole_of.Goals as goal

pub returns-in-Ok : goal.returns-in-Ok
returns-in-Ok c = sym (whole_of-some _ _ c.in-Ok.ensures.0 c.in-Ok.ensures.1 c.in-Ok.ensures.2)

pub returns-in-Err : goal.returns-in-Err
returns-in-Err c = sym (whole_of-none _ _ c.in-Err.ensures)
