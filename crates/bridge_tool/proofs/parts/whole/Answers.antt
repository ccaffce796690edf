use Rattle.std.proofs.Common.{◌∙◌, ◌<◌, ◌^◌, ap, arith, w64}
use Rattle.std.proofs.lemmas.Int.{to_z_pos}
use Rattle.exact_numbers.specs.Rational.{whole}
use Rattle.bridge_tool.proofs.NumberLemmas.{whole_is}
use Rattle.bridge_tool.proofs.parts.whole.Goals as goal

pub returns-clause-one : goal.returns-clause-one
returns-clause-one c =
    let small : c.args.n < 2 ^ 63 = omega (arith, c.ranges.n.fits) in
    whole_is c.args.n c.of_whole.result (c.of_whole.ensures ∙ ap whole (to_z_pos w64 c.args.n small))
