use Rattle.std.proofs.Common.{arith}
use Rattle.linear_fold.proofs.HeldLemmas.{number_node}
use Rattle.linear_fold.proofs.held.number_in.Goals as goal

pub returns : goal.returns
returns c t nodes = number_node c.args.nodes.now _ c.in-Num.value c.in-Some.number (omega arith) c.index-nodes-0.is c.in-Num.is c.in-Some.ensures.0 c.in-Some.ensures.1 t nodes
