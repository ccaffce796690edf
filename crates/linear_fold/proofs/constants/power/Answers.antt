use Rattle.std.proofs.Common.{◌∙◌, sym}
use Rattle.exact_numbers.specs.Values.{frac_value}
use Rattle.linear_fold.specs.InsideOperates.{part_line}
use Rattle.linear_fold.proofs.ConstantLemmas.{power_made, power_refused, power_too_wide}
use Rattle.linear_fold.proofs.constants.power.Goals as goal

pub returns-in_default-exponent_of : goal.returns-in_default-exponent_of
returns-in_default-exponent_of c n y z =
    power_refused n (part_line c.args.a.now) (part_line c.args.b.now) (sym (c.in-Some.ensures.test n y))
    (sym (c.in-Some-constant.ensures.test n z)) (frac_value c.in-Some-constant.exponent)
    c.in-Some-constant.ensures.value (sym c.exponent_of.ensures ∙ c.in_default-exponent_of.is)

pub returns-in-Some-power_of : goal.returns-in-Some-power_of
returns-in-Some-power_of c n y z =
    power_made n (part_line c.args.a.now) (part_line c.args.b.now) (sym (c.in-Some.ensures.test n y))
    (sym (c.in-Some-constant.ensures.test n z)) (frac_value c.in-Some.base) (frac_value c.in-Some-constant.exponent)
    (frac_value c.in-Some-power_of.value) c.in-Some-exponent_of.times
    c.in-Some.ensures.value c.in-Some-constant.ensures.value (sym c.exponent_of.ensures ∙ c.in-Some-exponent_of.is) c.in-Some-power_of.ensures.0 c.in-Some-power_of.ensures.1

pub returns-in-None : goal.returns-in-None
returns-in-None c n y z =
    power_too_wide n (part_line c.args.a.now) (part_line c.args.b.now) (sym (c.in-Some.ensures.test n y))
    (sym (c.in-Some-constant.ensures.test n z)) (frac_value c.in-Some.base) (frac_value c.in-Some-constant.exponent)
    c.in-Some-exponent_of.times
    c.in-Some.ensures.value c.in-Some-constant.ensures.value (sym c.exponent_of.ensures ∙ c.in-Some-exponent_of.is) c.in-None.ensures
