use Rattle.exact_numbers.specs.Values.{frac_value}
use Rattle.exact_checks.proofs.Numbers.{negative_test}
use Rattle.exact_checks.proofs.number.is_negative.Goals as goal

pub returns : goal.returns
returns c = negative_test (frac_value c.args.a) c.is_negative.result c.is_negative.ensures
