use Rattle.std.proofs.Common.{arith, refl}
use Rattle.exact_numbers.proofs.Plain.{plain_digits, plain_point}
use Rattle.exact_numbers.proofs.front.front_plain.Goals as goal

pub returns-then-whole-body : goal.returns-then-whole-body
returns-then-whole-body c =
    let front = c.sum_front-whole.ensures in
    plain_digits c.args.text.now c.without_sign-body.result.now c.has_minus-negative.result c.sum_front-whole.result.len
    c.sum_front-whole.result.number _ c.without_sign-body.ensures c.has_minus-negative.ensures c.if-whole-eq0.false
    front.within front.few front.digits front.number refl

pub returns : goal.returns
returns c =
    let front = c.sum_front-whole.ensures in
    let back = c.sum_front-front.ensures in
    plain_point c.args.text.now c.without_sign-body.result.now c.split_at.result.1.now c.has_minus-negative.result
    c.sum_front-whole.result.len c.sum_front-front.result.len c.sum_front-whole.result.number
    c.sum_front-front.result.number _
    c.without_sign-body.ensures c.has_minus-negative.ensures c.if-whole-eq0.false (omega (arith, c.if-whole-body.false))
    c.if-body-whole-ne46.false c.split_at.ensures.back back.within front.few back.few front.digits front.number
    back.digits back.number refl
