use Rattle.std.proofs.Common.{◌∙◌, sym, subst, SFits, to_z-of_z, unsigned_abs, ◌<◌, ◌^◌}
use mir.Syntax.{w128}
use Rattle.exact_numbers.specs.Values.{frac_value}
use Rattle.exact_numbers.proofs.Pairs.{SameValue, pair, sum_of}
use Rattle.exact_numbers.proofs.Fractions.{frac_fits, sized_fits}
use Rattle.exact_numbers.proofs.Wholes.{whole_sum, whole_frac}
use Rattle.exact_numbers.proofs.Bridge.{not_sum, sum_fits_in, sum_is, fitting_parts}
use Rattle.exact_numbers.proofs.frac.Frac.add_whole.Goals as goal

pub returns-in_default : goal.returns-in_default
returns-in_default c =
    not_sum (frac_value c.args.self) (frac_value c.args.other)
    (λ fits.
    let w = whole_sum c.args.self.num c.args.self.den c.args.other.num c.args.other.den c.args.self.spelled c.args.other.spelled c.requires.first c.requires.second in
    let f : SFits w128 c.args.self.num = frac_fits _ _ c.args.self.spelled in
    let g : SFits w128 c.args.other.num = frac_fits _ _ c.args.other.spelled in
    (simp to_z-of_z at c.in_default.ensures) (w.only fits))

pub invariant_of-result : goal.invariant_of-result
invariant_of-result c =
    let f : SFits w128 c.args.self.num = frac_fits _ _ c.args.self.spelled in
    let g : SFits w128 c.args.other.num = frac_fits _ _ c.args.other.spelled in
    let sum = simp to_z-of_z at c.in-Some.ensures in
    let small = subst (λ z. unsigned_abs z < 2 ^ 127) (sym sum.1) sum.0 in
    let fit : SFits w128 c.in-Some.sum = sized_fits _ small in
    record { spelled = simp to_z-of_z (whole_frac c.in-Some.sum small) }

pub returns : goal.returns
returns c =
    let w = whole_sum c.args.self.num c.args.self.den c.args.other.num c.args.other.den c.args.self.spelled c.args.other.spelled c.requires.first c.requires.second in
    let f : SFits w128 c.args.self.num = frac_fits _ _ c.args.self.spelled in
    let g : SFits w128 c.args.other.num = frac_fits _ _ c.args.other.spelled in
    let sum = simp to_z-of_z at c.in-Some.ensures in
    let small = subst (λ z. unsigned_abs z < 2 ^ 127) (sym sum.1) sum.0 in
    let fit : SFits w128 c.in-Some.sum = sized_fits _ small in
    let plain = to_z-of_z fit ∙ sum.1 in
    let same = subst (λ z. SameValue (pair z 1) (sum_of (pair c.args.self.num c.args.self.den) (pair c.args.other.num c.args.other.den))) (sym plain) w.same in (
      sum_fits_in (frac_value c.args.self) (frac_value c.args.other) (w.fits sum.0),
      (fitting_parts _ _ _ _ (whole_frac _ (subst (λ z. unsigned_abs z < 2 ^ 127) (sym plain) sum.0)) _ _ (sum_is (frac_value c.args.self) (frac_value c.args.other)) same).1,
    )
