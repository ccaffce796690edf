use Rattle.std.proofs.Common.{arith, ap, refl, sym, ◌∙◌}
use Rattle.std.proofs.lemmas.Int.{ints}
use Rattle.exact_numbers.specs.Rational.{decimal_value}
use Rattle.exact_numbers.specs.Decimal.{signed}
use Rattle.exact_numbers.proofs.Decimals.{abs_is}
use Rattle.exact_numbers.proofs.Plain.{marked_front}
use Rattle.exact_numbers.proofs.front.whole_power.Goals as goal

pub returns-clause-is : goal.returns-clause-is
returns-clause-is c d same =
    let p = c.args.plain in
    let power = c.in-Some.power in
    let x = c.in-Some.ensures in
    marked_front c.args.text.now c.split_at.result.1.now p.negative p.size p.places p.len power.len _ power.value d
    c.requires (omega (arith, c.if-plain-text.false)) (sym c.is_mark.ensures ∙ c.if-not-is_mark.false)
    c.split_at.ensures.back x refl
    (same ∙ ap (decimal_value (signed p.negative p.size)) (omega (arith, ints, abs_is power.value, x.short, c.requires.short)))
