use Rattle.std.proofs.Common.{rules, ◌≡◌, ◌≤ℤ◌, ◌∙◌, ◌^◌, ap, arith, pos, to_z, of_z, to_z-of_z, unsigned_abs, w64}
use mir.Syntax.{w16}
use Rattle.std.specs.Int.{w128}
use Rattle.std.proofs.lemmas.Int.{ints}
use Rattle.exact_checks.proofs.ShortLemmas.{decimal_over}
use Rattle.exact_checks.proofs.short_fraction.ShortFraction.of_dec.Goals as goal

pub returns : goal.returns
returns c =
    let m : to_z w64 (of_z w64 (to_z w128 (of_z w128 c.m-num.result))) ≡ c.args.number.m = search rules in
    let e : to_z w16 (of_z w16 c.e-e.result) ≡ c.args.number.e = to_z-of_z {w = w16} (record { sfits = c.e-e.type_inv }) ∙ c.e-e.ensures in
    let below : c.args.number.e ≤ℤ pos 0 = omega (arith, ints, e) in
    let places = c.unsigned_abs-places.ensures.value ∙ ap unsigned_abs e in
    decimal_over c.args.number.m c.args.number.e _ _ m below (c.in_ok-den.ensures.0 ∙ ap (λ k. 10 ^ k) places)
