use Rattle.std.proofs.Common.{◌∙◌}
use Rattle.exact_numbers.specs.Values.{frac_value}
use Rattle.linear_fold.proofs.Operators.{multiple_fits, multiple_scaled}
use Rattle.linear_fold.proofs.operate.scaled_multiple.Goals as goal

pub returns-in-Some : goal.returns-in-Some
returns-in-Some c n below = (
  multiple_fits n (frac_value c.args.k) (frac_value c.args.factor) c.args.variable below ∙ c.in-Some.ensures.0,
  multiple_scaled n (frac_value c.args.k) (frac_value c.args.factor) c.args.variable _ c.in-Some.ensures.1,
  below,
)
