use Rattle.std.proofs.Common.{arith}
use Rattle.exact_numbers.proofs.Plain.{index_is}
use Rattle.exact_numbers.proofs.front.plain_index.Goals as goal

pub returns : goal.returns
returns c =
    let front = c.sum_front-front.ensures in
    index_is _ _ _ front.within front.few c.if-front-eq0.false front.digits front.number (omega (arith, c.if-front-gt-LARGEST.false))
