use Rattle.std.proofs.Common.{rules, ◌≡◌, ℕ, ◌<◌, ◌≤◌, ◌^◌, ◌∙◌, arith, subst₂, pos, ◌<ℤ◌, unsigned_abs, to_z, of_z, to_z-of_z, MatchOption}
use Rattle.std.specs.Int.{w128}
use Rattle.std.proofs.lemmas.Int.{ints}
use Rattle.exact_numbers.specs.Fraction.{IsLcm}
use Rattle.row_scaling.proofs.NumberLemmas.{by_lcm, cofactor_is, with_none, with_one}
use Rattle.row_scaling.proofs.factors.with_number.Goals as goal

pub returns-then-has_few_places : goal.returns-then-has_few_places
returns-then-has_few_places c =
    let back : to_z w128 (of_z w128 c.args.factor) ≡ c.args.factor = to_z-of_z {w = w128} (record { sfits = c.ranges.factor.sfits }) in
    back ∙ with_none c.args.factor c.args.number c.requires (c.has_few_places.ensures c.if-has_few_places.true)

pub returns-then-cofactor-eq1 : goal.returns-then-cofactor-eq1
returns-then-cofactor-eq1 c =
    let back : to_z w128 (of_z w128 c.args.factor) ≡ c.args.factor = to_z-of_z {w = w128} (record { sfits = c.ranges.factor.sfits }) in
    back ∙ with_one c.args.factor c.args.number c.cofactor-cofactor.result c.requires (omega (arith, ints, c.if-cofactor-eq1.true)) c.cofactor-cofactor.ensures.cofactor

pub returns : goal.returns
returns c =
    let back : to_z w128 (of_z w128 c.args.factor) ≡ c.args.factor = search rules in
    let other : to_z w128 (of_z w128 c.cofactor-cofactor.result) ≡ c.cofactor-cofactor.result = search rules in
    let some : 0 < unsigned_abs c.cofactor-cofactor.result = omega (arith, ints, c.cofactor-cofactor.ensures.above) in
    by_lcm c.lcm.result (unsigned_abs c.args.factor) (unsigned_abs c.cofactor-cofactor.result) _ some (cofactor_is c.args.number _ c.cofactor-cofactor.ensures.cofactor)
    (subst₂ (λ a b. MatchOption c.lcm.result ((m : ℕ) → IsLcm (unsigned_abs a) (unsigned_abs b) m → 2 ^ 127 ≤ m)
    (λ m. (pos 0 <ℤ m) × IsLcm (unsigned_abs a) (unsigned_abs b) (unsigned_abs m))) back other c.lcm.ensures)
