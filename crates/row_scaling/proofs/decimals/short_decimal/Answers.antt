use Rattle.std.proofs.Common.{rules, ◌≡◌, ◌≤◌, ◌^◌, ◌∙◌, ap₂, pos, ◌*ℤ◌, to_z, of_z, to_z-of_z}
use Rattle.std.specs.Int.{w32, w64, w128}
use Rattle.exact_numbers.specs.Values.{frac_value}
use Rattle.row_scaling.proofs.NumberLemmas.{short_is}
use Rattle.row_scaling.proofs.decimals.short_decimal.Goals as goal

pub returns : goal.returns
returns c =
    let product : to_z w128 (of_z w128 c.small_product-mantissa.result) ≡ c.small_product-mantissa.result = to_z-of_z {w = w128} (record { sfits = c.small_product-mantissa.type_inv }) in
    let num : to_z w128 (of_z w128 c.num-num.result) ≡ c.num-num.result = to_z-of_z {w = w128} (record { sfits = c.num-num.type_inv }) in
    let within : c.in-Some.unit.scale ≤ 10 ^ 6 = c.in-Some.ensures.few in
    let scale : to_z w64 c.in-Some.unit.scale ≡ pos c.in-Some.unit.scale = search rules in
    let few : to_z w64 (of_z w64 (to_z w128 (of_z w128 c.num-num.result))) ≡ to_z w128 (of_z w128 c.num-num.result) = search rules in
    let exponent : to_z w32 (of_z w32 c.in-Some.unit.exponent) ≡ c.in-Some.unit.exponent = search rules in
    short_is c.new.result (frac_value c.args.number) _ c.in-Some.unit.exponent _ c.in-Some.unit.scale
    (product ∙ c.small_product-mantissa.ensures.value ∙ ap₂ (λ a b. a *ℤ b) (few ∙ num ∙ c.num-num.ensures) scale) exponent c.in-Some.ensures.whole c.in-Some.ensures.unit c.new.ensures
