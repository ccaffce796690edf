use Rattle.std.proofs.Common.{arith}
use Rattle.linear_fold.proofs.LeafLemmas.{quotient_head}
use Rattle.linear_fold.proofs.leaf_sums.multiple_at.Goals as goal

pub quotient_at-requires-clause-quotient : goal.quotient_at-requires-clause-quotient
quotient_at-requires-clause-quotient c =
    quotient_head c.args.nodes.now c.args.place c.index-nodes-place.result
    (let h = c.if-place-nodes.false in let k = c.requires in omega arith) c.index-nodes-place.is
    (c.is_quotient.ensures c.if-is_quotient.true)
