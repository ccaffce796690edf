use Rattle.std.proofs.Common.{rules, ◌≡◌, ◌∙◌, sym, ap₂, ◌*ℤ◌, to_z, of_z, w64}
use Rattle.exact_numbers.specs.Rational.{over}
use Rattle.exact_numbers.proofs.RationalLaws.{over-*ℚ}
use Rattle.exact_checks.proofs.short_fraction.ShortFraction.times.Goals as goal

pub returns : goal.returns
returns c =
    let n : to_z w64 (of_z w64 c.in_ok-num.num) ≡ c.args.self.num *ℤ c.args.other.num = search rules in
    ap₂ over n c.in_ok-den.ensures.1
    ∙ sym (over-*ℚ c.args.self.num c.args.other.num c.args.self.den c.args.other.den c.args.self.above c.args.other.above)
