use Rattle.std.proofs.Common.{lit<}
use Rattle.exact_numbers.specs.LowestLemmas.{one_coprime}
use Rattle.exact_numbers.proofs.Bridge.{one_is}
use Rattle.exact_numbers.proofs.frac.Frac.one.Goals as goal

pub paired-requires : goal.paired-requires
paired-requires c = record { size = lit< tt; above = lit< tt; small = lit< tt; reduced = one_coprime _ }

pub returns : goal.returns
returns c = one_is c.paired.result c.paired.ensures.numerator c.paired.ensures.denominator
