use Rattle.std.proofs.Common.{arith}
use Rattle.linear_fold.proofs.LeafLemmas.{if_some, variable_quotient_is}
use Rattle.linear_fold.proofs.leaf_sums.variable_quotient.Goals as goal

pub returns : goal.returns
returns c =
    if_some c.variable_over.result _ _
    (λ m is. variable_quotient_is c.args.nodes.now c.args.place c.index-nodes-place.result c.index-nodes-place-2.result
    m (let h = c.if-nodes-place-lt3.false in let k = c.requires.within in omega arith) c.requires.quotient
    c.index-nodes-place.is c.index-nodes-place-2.is is)
    c.variable_over.ensures
