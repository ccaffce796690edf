use Rattle.exact_numbers.specs.Values.{frac_value}
use Rattle.exact_numbers.proofs.Bridge.{frac_fits_lem}
use Rattle.certificate_judge.proofs.Larges.{least_decides}
use Rattle.certificate_judge.proofs.point.is_not_below.Goals as goal

pub returns-in-None-of_dec : goal.returns-in-None-of_dec
returns-in-None-of_dec c = least_decides c.in-Some.number (frac_value c.args.value) c.is_negative.result
    c.is_large.result c.args.side c.in-Some.is (frac_fits_lem c.args.value) c.is_negative.ensures c.if-is_large.true
    c.is_large.ensures
