use Rattle.linear_fold.proofs.LeafLemmas.{number_stands}
use Rattle.linear_fold.proofs.leaf_sums.number_at.Goals as goal

pub returns : goal.returns
returns c = number_stands c.args.nodes.now c.args.place c.index-nodes-place.result c.in-Num.number c.if-place-nodes.false c.index-nodes-place.is c.in-Num.is
