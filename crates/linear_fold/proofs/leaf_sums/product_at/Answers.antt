use Rattle.std.proofs.Common.{arith}
use Rattle.linear_fold.proofs.LeafLemmas.{if_some, product_leaf}
use Rattle.linear_fold.proofs.leaf_sums.product_at.Goals as goal

pub returns : goal.returns
returns c =
    if_some c.factors_of.result _ _
    (λ l e. product_leaf c.args.nodes.now c.args.place (let h = c.if-nodes-place-lt3.false in let k = c.requires in
    omega arith) c.index-nodes-place.result c.index-nodes-place-2.result c.index-nodes-place-3.result c.in-Op.opcode
    c.in-Op.count l c.index-nodes-place.is c.in-Op.is c.if-opcode-ne-PRODUCT.false c.if-count-ne2.false
    c.index-nodes-place-2.is c.index-nodes-place-3.is e)
    c.factors_of.ensures
