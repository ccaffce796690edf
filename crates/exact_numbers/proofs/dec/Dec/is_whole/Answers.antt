use Rattle.std.proofs.Common.{arith, ◌≤ℤ◌, pos}
use Rattle.std.proofs.lemmas.Int.{ints}
use Rattle.exact_numbers.proofs.Decimals.{whole_above, above_whole, abs_is}
use Rattle.exact_numbers.proofs.Bridge.{whole_is, decimal_is}
use Rattle.exact_numbers.proofs.dec.Dec.is_whole.Goals as goal

pub returns : goal.returns
returns c =
    let near = c.args.self.spelled.exponent in
    let parts = abs_is c.args.self.e in
    let link = whole_is _ _ (decimal_is c.args.self.m c.args.self.e) in
    (λ t. link.1 (whole_above _ _ (omega (arith, ints, t))), λ w. let h : pos 0 ≤ℤ c.args.self.e = above_whole _ _ c.args.self.spelled (link.0 w) in grind (arith, ints))
