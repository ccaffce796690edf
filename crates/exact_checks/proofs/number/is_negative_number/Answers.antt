use Rattle.linear_program.specs.Numbers.{number_value}
use Rattle.exact_checks.proofs.Numbers.{negative_test}
use Rattle.exact_checks.proofs.number.is_negative_number.Goals as goal

pub returns : goal.returns
returns c = negative_test (number_value c.args.a.now) c.is_negative.result c.is_negative.ensures
