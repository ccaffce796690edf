use Rattle.std.proofs.Common.{◌<◌, arith, length, sym}
use Rattle.linear_fold.proofs.Expressions.{some_term}
use Rattle.linear_fold.proofs.HeldLemmas.{held_is}
use Rattle.linear_fold.proofs.held.held_row.Goals as goal

pub returns-clause-held : goal.returns-clause-held
returns-clause-held g c =
    held_is _ c.in-Some.number c.args.terms.now c.node_count.result c.with_decimals.result c.in-Some.ensures (sym c.node_count.ensures.nodes) c.with_decimals.ensures.held

pub returns-clause-below : goal.returns-clause-below
returns-clause-below g c =
    let some : 0 < length c.args.terms.now = some_term c.args.terms.now (λ z. (let clash = c.are_zero.ensures.1 z in let k = c.if-are_zero.false in cc)) in
    let h = c.with_decimals.ensures.below in
    omega arith
