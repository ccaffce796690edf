use Rattle.std.proofs.Common.{arith, ◌≡◌, ◌∙◌, sym, subst, unsigned_abs, ◌<◌, ◌^◌, to_z, of_z, to_z-of_z, SFits}
use mir.Syntax.{w16, w32, w128}
use Rattle.std.proofs.lemmas.Int.{ints}
use Rattle.exact_numbers.proofs.Decimals.{abs_is}
use Rattle.exact_numbers.proofs.Fractions.{sized_fits}
use Rattle.exact_numbers.proofs.Bridge.{in_reach}
use Rattle.exact_numbers.proofs.dec.Dec.times.Goals as goal

pub returns-in_default : goal.returns-in_default
returns-in_default c reach =
    let m : to_z w128 (of_z w128 c.m.result) ≡ c.args.self.m = to_z-of_z {w = w128} (record { sfits = c.m.type_inv }) ∙ c.m.ensures in
    let k : SFits w128 c.args.k = c.ranges.k in
    (simp (m, to_z-of_z) at c.in_default.ensures) reach.size

pub returns : goal.returns
returns c =
    let m : to_z w128 (of_z w128 c.m.result) ≡ c.args.self.m = to_z-of_z {w = w128} (record { sfits = c.m.type_inv }) ∙ c.m.ensures in
    let k : SFits w128 c.args.k = c.ranges.k in
    let product = simp (m, to_z-of_z) at c.in-Some.ensures in
    let fit : SFits w128 c.in-Some.product = sized_fits _ (subst (λ z. unsigned_abs z < 2 ^ 127) (sym product.1) product.0) in
    let near = c.args.self.spelled.exponent in
    let places = abs_is c.args.self.e in
    let e : to_z w32 (of_z w32 (to_z w16 (of_z w16 c.e.result))) ≡ c.args.self.e = omega (arith, ints, c.e.ensures) in
    in_reach c.new.result c.args.self _ _ c.args.k (to_z-of_z fit ∙ product.1) e product.0 c.new.ensures
