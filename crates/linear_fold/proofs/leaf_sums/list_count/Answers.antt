use Rattle.std.proofs.Common.{arith}
use Rattle.linear_fold.proofs.LeafLemmas.{list_at}
use Rattle.linear_fold.proofs.leaf_sums.list_count.Goals as goal

pub returns : goal.returns
returns c = list_at c.args.nodes.now c.index-nodes-0.result c.in-Op.opcode c.in-Op.count (omega arith) c.index-nodes-0.is c.in-Op.is c.if-opcode-ne-LIST.false
