use Rattle.linear_program.specs.Numbers.{number_value}
use Rattle.exact_checks.proofs.Numbers.{zero_test}
use Rattle.exact_checks.proofs.number.is_zero_number.Goals as goal

pub returns : goal.returns
returns c = zero_test (number_value c.args.a.now) c.is_zero.result c.is_zero.ensures
