use Rattle.std.proofs.Common.{rules, ◌≡◌, ◌*◌, SFits, to_z-of_z, unsigned_abs, lit<}
use mir.Syntax.{w128}
use Rattle.exact_numbers.specs.Values.{frac_value}
use Rattle.exact_numbers.proofs.Fractions.{Multiplied, frac_fits}
use Rattle.exact_numbers.proofs.Wholes.{whole_product}
use Rattle.exact_numbers.proofs.Bridge.{not_fits, fitting, product_is}
use Rattle.exact_numbers.proofs.frac.Frac.mul_whole.Goals as goal
use Rattle.exact_numbers.proofs.frac.Frac.mul_whole.Goals.{After-unsigned_abs-2}

product : (c : After-unsigned_abs-2) → Multiplied c.args.self.num c.args.other.num c.unsigned_abs.result
    c.unsigned_abs-2.result c.args.self.den c.args.other.den (c.unsigned_abs.result * c.unsigned_abs-2.result) 1
product c =
    let a : c.unsigned_abs.result ≡ unsigned_abs c.args.self.num = search rules in
    let b : c.unsigned_abs-2.result ≡ unsigned_abs c.args.other.num = search rules in
    whole_product c.args.self.num c.args.other.num _ _ c.args.self.den c.args.other.den a b c.args.self.spelled c.args.other.spelled c.requires.first c.requires.second

pub returns-in_default : goal.returns-in_default
returns-in_default c =
    not_fits _ _ (product_is (frac_value c.args.self) (frac_value c.args.other))
    (λ fits.
    let w = product (goal.at.returns-in_default c).After-unsigned_abs-2 in
    c.in_default.ensures (w.only fits).0)

pub paired-requires : goal.paired-requires
paired-requires c =
    let w = product (goal.at.paired-requires c).After-unsigned_abs-2 in
    let f : SFits w128 c.args.self.num = frac_fits _ _ c.args.self.spelled in
    let g : SFits w128 c.args.other.num = frac_fits _ _ c.args.other.spelled in
    let size = c.in-Some.ensures in
    simp (to_z-of_z, size.1) (w.is_frac size.0 (lit< tt))

pub returns : goal.returns
returns c =
    let w = product (goal.at.returns c).After-unsigned_abs-2 in
    let f : SFits w128 c.args.self.num = frac_fits _ _ c.args.self.spelled in
    let g : SFits w128 c.args.other.num = frac_fits _ _ c.args.other.spelled in
    let size = c.in-Some.ensures in
    fitting c.paired.result _ _ (product_is (frac_value c.args.self) (frac_value c.args.other)) (simp (c.paired.ensures.numerator, c.paired.ensures.denominator, to_z-of_z, size.1) w.same)
