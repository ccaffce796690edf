use Rattle.std.proofs.Common.{rules, ◌≡◌, ◌*◌, ◌/◌, SFits, to_z-of_z, unsigned_abs}
use mir.Syntax.{w128}
use Rattle.exact_numbers.proofs.Fractions.{Multiplied, multiplied, frac_fits}
use Rattle.exact_numbers.specs.Values.{frac_value}
use Rattle.exact_numbers.proofs.Bridge.{not_fits, fitting, product_is}
use Rattle.exact_numbers.proofs.frac.Frac.mul_parts.Goals as goal
use Rattle.exact_numbers.proofs.frac.Frac.mul_parts.Goals.{After-gcd-second}

crossed : (c : After-gcd-second) → Multiplied c.args.self.num c.args.other.num c.unsigned_abs-size.result
    c.unsigned_abs-other_size.result c.args.self.den c.args.other.den
    (c.unsigned_abs-size.result / c.gcd-first.result * (c.unsigned_abs-other_size.result / c.gcd-second.result))
    (c.args.self.den / c.gcd-second.result * (c.args.other.den / c.gcd-first.result))
crossed c =
    let a : c.unsigned_abs-size.result ≡ unsigned_abs c.args.self.num = search rules in
    let b : c.unsigned_abs-other_size.result ≡ unsigned_abs c.args.other.num = search rules in
    multiplied c.args.self.num c.args.other.num _ _ c.args.self.den c.args.other.den _ _ a b c.args.self.spelled c.args.other.spelled c.gcd-first.ensures.greatest c.gcd-second.ensures.greatest

pub returns-in_default : goal.returns-in_default
returns-in_default c = not_fits _ _ (product_is (frac_value c.args.self) (frac_value c.args.other))
    (λ fits. c.in_default.ensures ((crossed (goal.at.returns-in_default c).After-gcd-second).only fits).0)

pub returns-in_default-bounded_product : goal.returns-in_default-bounded_product
returns-in_default-bounded_product c = not_fits _ _ (product_is (frac_value c.args.self) (frac_value c.args.other))
    (λ fits. c.in_default-bounded_product.ensures ((crossed (goal.at.returns-in_default-bounded_product
    c).After-gcd-second).only fits).1)

pub paired-requires : goal.paired-requires
paired-requires c =
    let f : SFits w128 c.args.self.num = frac_fits _ _ c.args.self.spelled in
    let g : SFits w128 c.args.other.num = frac_fits _ _ c.args.other.spelled in
    let num = c.in-Some.ensures in
    let den = c.in-Some-bounded_product.ensures in
    simp (to_z-of_z, num.1, den.1) ((crossed (goal.at.paired-requires c).After-gcd-second).is_frac num.0 den.0)

pub returns : goal.returns
returns c =
    let f : SFits w128 c.args.self.num = frac_fits _ _ c.args.self.spelled in
    let g : SFits w128 c.args.other.num = frac_fits _ _ c.args.other.spelled in
    let num = c.in-Some.ensures in
    let den = c.in-Some-bounded_product.ensures in
    fitting c.paired.result _ _ (product_is (frac_value c.args.self) (frac_value c.args.other))
    (simp (c.paired.ensures.numerator, c.paired.ensures.denominator, to_z-of_z, num.1, den.1)
    (crossed (goal.at.returns c).After-gcd-second).same)
