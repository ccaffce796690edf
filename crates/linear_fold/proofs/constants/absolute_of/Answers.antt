use Rattle.std.proofs.Common.{◌∙◌}
use Rattle.exact_numbers.specs.Values.{frac_value}
use Rattle.linear_fold.proofs.ConstantLemmas.{absolute_neg, absolute_pos, is_above, top_under}
use Rattle.linear_fold.proofs.constants.absolute_of.Goals as goal

pub returns-then-is_negative : goal.returns-then-is_negative
returns-then-is_negative c = c.neg.ensures ∙ absolute_neg (frac_value c.args.x) (top_under (frac_value c.args.x) (c.is_negative.ensures.0 c.if-is_negative.true))

pub returns : goal.returns
returns c = absolute_pos (frac_value c.args.x) (is_above c.is_negative.result (frac_value c.args.x) c.is_negative.ensures.1 c.if-is_negative.false)
