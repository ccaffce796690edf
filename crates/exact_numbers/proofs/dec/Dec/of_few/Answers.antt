use Rattle.std.proofs.Common.{arith, ◌≡◌, ◌∙◌, to_z-of_z, ap, sym, le-mul_of_pos_right}
use mir.Syntax.{w128}
use Rattle.std.proofs.lemmas.Int.{ints}
use Rattle.exact_numbers.specs.Rational.{decimal_value}
use Rattle.exact_numbers.specs.Decimal.{signed}
use Rattle.exact_numbers.proofs.Tens.{ten-pos}
use Rattle.exact_numbers.proofs.Decimals.{is_dec, signed_moved}
use Rattle.exact_numbers.proofs.Bridge.{decimal_is, same_dec_value}
use Rattle.exact_numbers.proofs.Signs.{signed_zero}
use Rattle.exact_numbers.proofs.dec.Dec.of_few.Goals as goal

pub returns-then-size-eq0 : goal.returns-then-size-eq0
returns-then-size-eq0 c = c.zero.ensures ∙ sym (signed_zero c.args.negative c.args.size (c.args.power) c.if-size-eq0.true)

pub of_parts-requires : goal.of_parts-requires
of_parts-requires c =
    let small = le-mul_of_pos_right c.strip_few-stripped.result.rest (ten-pos c.strip_few-stripped.result.zeros) in
    is_dec _ _ _ _ (to_z-of_z {w = w128} (record { sfits = c.with_sign.type_inv }) ∙ c.with_sign.ensures)
    c.strip_few-stripped.ensures.shortest (omega arith) (omega (arith, ints)) (omega (arith, ints))

pub returns : goal.returns
returns c =
    let s = c.args.negative in
    let r = c.strip_few-stripped.result.rest in
    let sign : c.of_parts.result.m ≡ signed s r = c.of_parts.ensures.mantissa ∙ to_z-of_z {w = w128} (record { sfits = c.with_sign.type_inv }) ∙ c.with_sign.ensures in
    ap (λ m. decimal_value m c.of_parts.result.e) sign
    ∙ same_dec_value _ _ _ _ (decimal_is (signed s c.args.size) (c.args.power))
    (signed_moved s r c.args.size c.strip_few-stripped.result.zeros (c.args.power) c.of_parts.result.e
    c.strip_few-stripped.ensures.whole (omega (arith, ints, c.of_parts.ensures.exponent)))
