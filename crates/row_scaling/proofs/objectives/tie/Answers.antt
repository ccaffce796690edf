use Rattle.std.proofs.Common.{rules, ◌≡◌, ◌∙◌, ap, to_z, of_z}
use Rattle.std.specs.Int.{w128}
use Rattle.exact_numbers.specs.Rational.{whole}
use Rattle.row_scaling.proofs.NumberLemmas.{fraction_decimal}
use Rattle.row_scaling.proofs.objectives.tie.Goals as goal

pub unreachable-requires : goal.unreachable-requires
unreachable-requires c =
    let back : to_z w128 (of_z w128 c.args.factor) ≡ c.args.factor = search rules in
    c.in-None.ensures (fraction_decimal c.whole.result c.args.factor c.requires (c.whole.ensures ∙ ap whole back))
