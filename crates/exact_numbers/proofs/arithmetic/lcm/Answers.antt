use Rattle.std.proofs.Common.{rules, arith, pos, ◌≡◌, ◌<◌, ◌*◌, ◌/◌, sym, subst, subst₂, ◌^◌, unsigned_abs, to_z}
use Rattle.std.proofs.lemmas.Int.{ints, to_z_pos}
use Rattle.std.specs.Int.{w128}
use Rattle.exact_numbers.specs.Fraction.{IsLcm}
use Rattle.exact_numbers.proofs.Decimals.{abs_is}
use Rattle.exact_numbers.proofs.Coprime.{same_lcm}
use Rattle.exact_numbers.proofs.Fractions.{lcm_of}
use Rattle.exact_numbers.proofs.arithmetic.lcm.Goals as goal
use Rattle.exact_numbers.proofs.arithmetic.lcm.Goals.{After-gcd-common}

multiple : (c : After-gcd-common) → let n = c.unsigned_abs-size.result * (c.unsigned_abs-other.result / c.gcd-common.result) in IsLcm (unsigned_abs c.args.a) (unsigned_abs c.args.b) n × (0 < n)
multiple c =
    let a : c.unsigned_abs-size.result ≡ unsigned_abs c.args.a = search rules in
    let b : c.unsigned_abs-other.result ≡ unsigned_abs c.args.b = search rules in
    let p : 0 < unsigned_abs c.args.a = omega (arith, ints, abs_is c.args.a) in
    let q : 0 < unsigned_abs c.args.b = omega (arith, ints, abs_is c.args.b) in
    let w = lcm_of c.unsigned_abs-size.result c.unsigned_abs-other.result c.gcd-common.result (rw a p) (rw b q) c.gcd-common.ensures.greatest in
    (subst₂ (λ x y. IsLcm x y (c.unsigned_abs-size.result * (c.unsigned_abs-other.result / c.gcd-common.result))) a b w.0, w.1)

pub returns-in-Some : goal.returns-in-Some
returns-in-Some c =
    let w = multiple (goal.at.returns-in-Some c).After-gcd-common in
    let m = c.in-Some.multiple in
    let n = c.in-Some.ensures.1 in
    let small : m < 2 ^ 127 = omega (arith, n, c.in-Some.ensures.0) in
    let is : to_z w128 m ≡ pos m = to_z_pos w128 m small in
    let above : 0 < m = omega (arith, n, w.1) in
    rw is (omega (arith, ints), subst (λ k. IsLcm (unsigned_abs c.args.a) (unsigned_abs c.args.b) k) (sym n) w.0)

pub returns-in-None : goal.returns-in-None
returns-in-None c m is =
    let w = multiple (goal.at.returns-in-None c).After-gcd-common in
    let same = same_lcm _ _ _ _ is w.0 in
    omega (arith, same, c.in-None.ensures)
