use Rattle.std.proofs.Common.{◌≡◌, ◌∙◌, refl, to_z, of_z, to_z-of_z}
use mir.Syntax.{w16}
use Rattle.exact_numbers.specs.Decimal.{signed}
use Rattle.exact_numbers.proofs.Plain.{three_digits, power_of}
use Rattle.exact_numbers.proofs.front.front_power.Goals as goal

pub signed_power-requires : goal.signed_power-requires
signed_power-requires c = let front = c.sum_front-front.ensures in three_digits _ _ _ front.within front.few front.digits front.number

pub returns : goal.returns
returns c =
    let front = c.sum_front-front.ensures in
    let sign : to_z w16 (of_z w16 c.signed_power.result) ≡ signed c.has_minus.result c.sum_front-front.result.number =
    to_z-of_z {w = w16} (record { sfits = c.signed_power.type_inv }) ∙ c.signed_power.ensures in
    power_of c.args.text.now c.without_sign-body.result.now c.has_minus.result c.sum_front-front.result.len
    c.sum_front-front.result.number _ _ c.without_sign-body.ensures c.has_minus.ensures c.if-front-eq0.false
    front.within front.few front.digits front.number sign refl
