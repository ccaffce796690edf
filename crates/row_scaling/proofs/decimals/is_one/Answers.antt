use Rattle.std.proofs.Common.{rules, ◌≡◌, ◌∙◌, sym, ap, arith, pos, to_z, of_z}
use Rattle.std.specs.Int.{w128}
use Rattle.std.proofs.lemmas.Bool.{eqb-true}
use Rattle.std.proofs.lemmas.Int.{ints}
use Rattle.exact_numbers.proofs.Bridge.{one_is}
use Rattle.row_scaling.proofs.decimals.is_one.Goals as goal

pub returns-then-num-eq1 : goal.returns-then-num-eq1
returns-then-num-eq1 c = λ t.
    let top : c.args.number.num ≡ pos 1 = search rules in
    let back : to_z w128 (of_z w128 c.den.result) ≡ c.den.result = search rules in
    let one : c.den.result ≡ pos 1 = sym back ∙ ap (to_z w128) (eqb-true _ _ t) in
    one_is c.args.number top (omega (arith, ints, one, c.den.ensures))
