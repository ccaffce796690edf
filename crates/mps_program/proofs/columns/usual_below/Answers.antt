use Rattle.std.proofs.Common.{◌∙◌, ap, true, false, Some}
use Rattle.exact_numbers.specs.Values.{dec_value}
use Rattle.mps_program.proofs.ReachLemmas.{sign_of, usual_is}
use Rattle.mps_program.proofs.columns.usual_below.Goals as goal

pub returns-then-is_negative : goal.returns-then-is_negative
returns-then-is_negative c = usual_is (dec_value c.args.upper) true (sign_of c.is_negative.result (dec_value c.args.upper) c.is_negative.ensures ∙ c.if-is_negative.true)

pub returns-else-is_negative : goal.returns-else-is_negative
returns-else-is_negative c = ap Some c.zero.ensures ∙ usual_is (dec_value c.args.upper) false (sign_of c.is_negative.result (dec_value c.args.upper) c.is_negative.ensures ∙ c.if-is_negative.false)
