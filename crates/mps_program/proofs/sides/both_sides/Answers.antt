use Rattle.std.proofs.Common.{◌∙◌, true, false}
use Rattle.exact_numbers.specs.Values.{dec_value}
use Rattle.mps_program.proofs.ReachLemmas.{lower_kind, equal_kind, sign_of}
use Rattle.mps_program.proofs.sides.both_sides.Goals as goal

pub returns-in-L : goal.returns-in-L
returns-in-L c = lower_kind c.args.kind (dec_value c.args.rhs) (dec_value c.args.other) (dec_value c.args.range) c.in-L.is c.requires

pub returns-then-is_negative : goal.returns-then-is_negative
returns-then-is_negative c =
    equal_kind c.args.kind (dec_value c.args.rhs) (dec_value c.args.other) (dec_value c.args.range) true c.in-E.is c.requires
    (sign_of c.is_negative.result (dec_value c.args.range) c.is_negative.ensures ∙ c.if-is_negative.true)

pub returns-else-is_negative : goal.returns-else-is_negative
returns-else-is_negative c =
    equal_kind c.args.kind (dec_value c.args.rhs) (dec_value c.args.other) (dec_value c.args.range) false c.in-E.is c.requires
    (sign_of c.is_negative.result (dec_value c.args.range) c.is_negative.ensures ∙ c.if-is_negative.false)
