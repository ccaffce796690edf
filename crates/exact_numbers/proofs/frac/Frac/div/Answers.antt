use Rattle.std.proofs.Common.{rules, ◌≡◌, ◌≢◌, pos, inl, ap}
use Rattle.exact_numbers.specs.Rational.{zero_ℚ, ◌*ℚ◌}
use Rattle.exact_numbers.specs.Values.{frac_value}
use Rattle.exact_numbers.proofs.Bridge.{zero_is, zero_num, divided}
use Rattle.exact_numbers.proofs.frac.Frac.div.Goals as goal

pub returns-then-other-eq0 : goal.returns-then-other-eq0
returns-then-other-eq0 c =
    let none : c.args.other.num ≡ pos 0 = search rules in
    inl (zero_is c.args.other none)

pub reciprocal-requires : goal.reciprocal-requires
reciprocal-requires c e =
    let none : c.args.other.num ≡ pos 0 = zero_num c.args.other e in
    c.if-other-eq0.false (search rules)

pub returns : goal.returns
returns c =
    let some : frac_value c.args.other ≢ zero_ℚ = λ e. (let none : c.args.other.num ≡ pos 0 = zero_num c.args.other e in c.if-other-eq0.false (search rules)) in
    divided c.mul.result _ _ _ some (ap (λ y. frac_value c.args.self *ℚ y) c.reciprocal.ensures) c.mul.ensures
