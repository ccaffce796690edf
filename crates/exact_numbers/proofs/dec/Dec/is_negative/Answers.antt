use Rattle.std.proofs.Common.{arith, pos, ◌<ℤ◌}
use Rattle.std.proofs.lemmas.Int.{ints}
use Rattle.exact_numbers.proofs.Decimals.{abs_is}
use Rattle.exact_numbers.proofs.Signs.{dec_below}
use Rattle.exact_numbers.proofs.dec.Dec.is_negative.Goals as goal

pub returns : goal.returns
returns c =
    let size = c.args.self.spelled.mantissa in
    let parts = abs_is c.args.self.m in
    let link = dec_below c.args.self.m c.args.self.e in
    (λ t. link.0 (omega (arith, ints, t)), λ l. let low : c.args.self.m <ℤ pos 0 = link.1 l in grind (arith, ints))
