use Rattle.std.proofs.Common.{rules, ◌≡◌, ◌∙◌, ap₂, to_z, of_z, w64}
use Rattle.std.specs.Int.{w128}
use lib.IntN.{nat_abs}
use Rattle.exact_numbers.specs.Rational.{over}
use Rattle.exact_numbers.proofs.RationalLaws.{over_parts}
use Rattle.exact_numbers.specs.Values.{frac_value}
use Rattle.exact_checks.proofs.short_fraction.ShortFraction.of.Goals as goal

pub returns : goal.returns
returns c =
    let n : to_z w64 (of_z w64 (to_z w128 (of_z w128 c.num-num.result))) ≡ c.args.number.num = search rules in
    let d : nat_abs (to_z w128 (of_z w128 c.den-den.result)) ≡ c.args.number.den = search rules in
    ap₂ over n d ∙ over_parts (frac_value c.args.number)
