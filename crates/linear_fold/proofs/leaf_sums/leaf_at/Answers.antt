use Rattle.std.proofs.Common.{arith}
use Rattle.linear_fold.proofs.LeafLemmas.{number_leaf, variable_leaf}
use Rattle.linear_fold.proofs.leaf_sums.leaf_at.Goals as goal

pub returns-in-Num : goal.returns-in-Num
returns-in-Num c = number_leaf c.args.nodes.now c.args.place c.index-nodes-place.result c.in-Num.factor
    (let h = c.if-place-nodes.false in let k = c.requires in omega arith) c.index-nodes-place.is c.in-Num.is

pub returns-in-Var : goal.returns-in-Var
returns-in-Var c =
    variable_leaf c.args.nodes.now c.args.place c.index-nodes-place.result c.in-Var.variable c.of_whole.result
    c.of_whole.ensures (let h = c.if-place-nodes.false in let k = c.requires in omega arith) c.index-nodes-place.is
    c.in-Var.is
