use Rattle.std.proofs.Common.{rules, refl, ◌≡◌, ◌∙◌, ap₂, pos, ◌*ℤ◌, subst, ◌<◌, ◌^◌, unsigned_abs, sym, to_z, of_z, to_z-of_z}
use Rattle.std.specs.Int.{w64, w128}
use Rattle.exact_numbers.specs.Values.{frac_value}
use Rattle.row_scaling.proofs.NumberLemmas.{whole_product_is}
use Rattle.row_scaling.proofs.decimals.whole_product.Goals as goal

pub returns : goal.returns
returns c =
    let product : to_z w128 (of_z w128 c.small_product-mantissa.result) ≡ c.small_product-mantissa.result = to_z-of_z {w = w128} (record { sfits = c.small_product-mantissa.type_inv }) in
    let num : to_z w128 (of_z w128 c.num-num.result) ≡ c.num-num.result = to_z-of_z {w = w128} (record { sfits = c.num-num.type_inv }) in
    let times : to_z w64 c.in-Some.times ≡ pos c.in-Some.times = (let few = c.in-Some.ensures.few in search rules) in
    let few : to_z w64 (of_z w64 (to_z w128 (of_z w128 c.num-num.result))) ≡ to_z w128 (of_z w128 c.num-num.result) = search rules in
    whole_product_is c.new.result (frac_value c.args.factor) (frac_value c.args.number) c.in-Some.times
    (to_z w128 (of_z w128 c.small_product-mantissa.result)) (pos 0) c.in-Some.ensures.whole c.in-Some.ensures.times
    (product ∙ c.small_product-mantissa.ensures.value ∙ ap₂ (λ a b. a *ℤ b) (few ∙ num ∙ c.num-num.ensures) times)
    (subst (λ z. unsigned_abs z < 2 ^ 127) (sym product) c.small_product-mantissa.ensures.small) refl c.new.ensures
