use Rattle.std.proofs.Common.{◌≡◌, ◌∙◌, true, false, nat_eq, get_or, sym}
use Rattle.bridge_tool.specs.Command.{has_front_zero}
use Rattle.bridge_tool.proofs.Numbers.{plus_is_none, zero_is_none, parsed_is_number, unparsed_is_none}
use Rattle.bridge_tool.proofs.command.plain_number.Goals as goal

pub returns-then-has_plus : goal.returns-then-has_plus
returns-then-has_plus c =
    let is : nat_eq (get_or c.args.word.now 0 0) 43 ≡ true = rw (← c.as_bytes-bytes.ensures.value) (sym c.has_plus.ensures ∙ c.if-has_plus.true) in
    plus_is_none c.args.word.now is

pub returns-then-has_front_zero : goal.returns-then-has_front_zero
returns-then-has_front_zero c =
    let is : has_front_zero c.args.word.now ≡ true = rw (← c.as_bytes-bytes.ensures.value) (sym c.has_front_zero.ensures ∙ c.if-has_front_zero.true) in
    zero_is_none c.args.word.now is

pub returns-in-Ok : goal.returns-in-Ok
returns-in-Ok c =
    let plus : nat_eq (get_or c.args.word.now 0 0) 43 ≡ false = rw (← c.as_bytes-bytes.ensures.value) (sym c.has_plus.ensures ∙ c.if-has_plus.false) in
    let zero : has_front_zero c.args.word.now ≡ false = rw (← c.as_bytes-bytes.ensures.value) (sym c.has_front_zero.ensures ∙ c.if-has_front_zero.false) in
    parsed_is_number c.args.word.now c.in-Ok.number plus zero c.in-Ok.ensures.value.0

pub returns-in-Err : goal.returns-in-Err
returns-in-Err c =
    let plus : nat_eq (get_or c.args.word.now 0 0) 43 ≡ false = rw (← c.as_bytes-bytes.ensures.value) (sym c.has_plus.ensures ∙ c.if-has_plus.false) in
    unparsed_is_none _ c.args.word.now c.in-Err.field-0 plus c.in-Err.ensures.value.0
