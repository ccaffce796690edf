use Rattle.std.proofs.Common.{rules, ◌≡◌, ◌∙◌, sym, ap, neg_ℤ, to_z, of_z, w64}
use Rattle.exact_numbers.specs.Rational.{over}
use Rattle.exact_numbers.proofs.RationalLaws.{over-neg}
use Rattle.exact_checks.proofs.short_fraction.ShortFraction.negated.Goals as goal

pub returns : goal.returns
returns c =
    let n : to_z w64 (of_z w64 c.in_ok-num.num) ≡ neg_ℤ c.args.self.num = search rules in
    ap (λ z. over z c.args.self.den) n ∙ sym (over-neg c.args.self.num c.args.self.den c.args.self.above)
