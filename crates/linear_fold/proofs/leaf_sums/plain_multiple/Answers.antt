use Rattle.linear_fold.proofs.LeafLemmas.{if_some, multiple_here}
use Rattle.linear_fold.proofs.leaf_sums.plain_multiple.Goals as goal

pub returns : goal.returns
returns c = if_some c.multiple_of.result _ _ (λ m is. multiple_here c.args.nodes.now c.args.place c.in-Some.leaf m c.in-Some.ensures is) c.multiple_of.ensures
