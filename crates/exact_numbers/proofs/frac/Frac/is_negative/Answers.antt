use Rattle.std.proofs.Common.{arith, pos, ◌<ℤ◌}
use Rattle.std.proofs.lemmas.Int.{ints}
use Rattle.exact_numbers.proofs.Decimals.{abs_is}
use Rattle.exact_numbers.proofs.Signs.{frac_below}
use Rattle.exact_numbers.proofs.frac.Frac.is_negative.Goals as goal

pub returns : goal.returns
returns c =
    let size = c.args.self.spelled.size in
    let parts = abs_is c.args.self.num in
    let link = frac_below c.args.self in
    (λ t. link.0 (omega (arith, ints, t)), λ l. let low : c.args.self.num <ℤ pos 0 = link.1 l in grind (arith, ints))
