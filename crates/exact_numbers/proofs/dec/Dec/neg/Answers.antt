use Rattle.std.proofs.Common.{rules, arith, ap₂, ◌∙◌, ◌≡◌, neg_ℤ}
use Rattle.std.proofs.lemmas.Int.{ints}
use Rattle.exact_numbers.specs.Rational.{decimal_value}
use Rattle.exact_numbers.proofs.Decimals.{abs_is}
use Rattle.exact_numbers.proofs.Bridge.{decimal-neg}
use Rattle.exact_numbers.proofs.dec.Dec.neg.Goals as goal

pub returns : goal.returns
returns c =
    let size = c.args.self.spelled.mantissa in
    let parts = abs_is c.args.self.m in
    let near = c.args.self.spelled.exponent in
    let places = abs_is c.args.self.e in
    let m : c.of_parts.result.m ≡ neg_ℤ c.args.self.m = omega (arith, ints, c.m.ensures, c.of_parts.ensures.mantissa) in
    let e : c.of_parts.result.e ≡ c.args.self.e = omega (arith, ints, c.of_parts.ensures.exponent, c.e.ensures) in
    ap₂ decimal_value m e ∙ decimal-neg c.args.self.m c.args.self.e

pub overflow_sub-m : goal.overflow_sub-m
overflow_sub-m c = search rules
