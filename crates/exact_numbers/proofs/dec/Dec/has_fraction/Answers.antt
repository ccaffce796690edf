use Rattle.std.proofs.Common.{arith, ◌≡◌, ◌<◌, ◌^◌, pos, neg_ℤ, ◌≤ℤ◌, unsigned_abs, sym, to_z-of_z, to_z, of_z, ap, ◌∙◌}
use mir.Syntax.{w16}
use Rattle.std.specs.Int.{w128}
use Rattle.std.proofs.lemmas.Int.{ints}
use Rattle.exact_numbers.proofs.Decimals.{abs_is}
use Rattle.exact_numbers.proofs.Few.{few_fit}
use Rattle.exact_numbers.proofs.dec.Dec.has_fraction.Goals as goal

pub returns-then-e-le19 : goal.returns-then-e-le19
returns-then-e-le19 c =
    let m : to_z w128 (of_z w128 c.m.result) ≡ c.args.self.m = to_z-of_z {w = w128} (record { sfits = c.m.type_inv }) ∙ c.m.ensures in
    let e : to_z w16 (of_z w16 c.e-e.result) ≡ c.args.self.e = to_z-of_z {w = w16} (record { sfits = c.e-e.type_inv }) ∙ c.e-e.ensures in
    let size : c.unsigned_abs.result ≡ unsigned_abs c.args.self.m = c.unsigned_abs.ensures.value ∙ ap unsigned_abs m in
    let small : unsigned_abs c.args.self.m < 2 ^ 63 = omega (arith, size, c.if-unsigned_abs-lt-FEW.true) in
    let near = c.args.self.spelled.exponent in
    let parts = abs_is c.args.self.e in
    let low : neg_ℤ (pos 38) ≤ℤ c.args.self.e = omega (arith, ints, e, c.e-e.ensures, c.if-e-geminus38.true) in
    let high : c.args.self.e ≤ℤ pos 19 = omega (arith, ints, e, c.e-e.ensures, c.if-e-le19.true) in
    sym (few_fit c.args.self.m c.args.self.e small low high)
