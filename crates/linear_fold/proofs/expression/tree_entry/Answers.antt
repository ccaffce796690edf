use Rattle.std.proofs.Common.{IfSome, ap, length, option_copied, subst}
use Rattle.exact_numbers.specs.Rational.{zero_ℚ}
use Rattle.nl_model.specs.Trees.{tree_size}
use Rattle.linear_fold.specs.InsideFolds.{IsTreeGiven}
use Rattle.linear_fold.specs.InsideLeafSums.{IsFormOf}
use Rattle.linear_fold.proofs.Expressions.{prefix_size, prefix_within, zero_folded}
use Rattle.linear_fold.proofs.Folding.{constant_within, some_node}
use Rattle.linear_fold.proofs.LeafLemmas.{leaf_bound, some_holds, tree_bound}
use Rattle.linear_fold.proofs.expression.tree_entry.Goals as goal

pub fold_tree-requires-clause-within : goal.fold_tree-requires-clause-within
fold_tree-requires-clause-within g c =
    prefix_within c.args.variables c.args.slots.now c.nodes-nodes.ensures.prefix (subst (λ t. IfSome (option_copied t) (IsTreeGiven c.args.variables c.args.slots.now)) c.in-Some.is c.requires.given)

pub returns-in_err-form-in-Some-clause-below : goal.returns-in_err-form-in-Some-clause-below
returns-in_err-form-in-Some-clause-below g c =
    let nodes = c.nodes-nodes.result.now in
    rw c.in-Some.is (leaf_bound c.args.variables c.leaf_sum.new.steps c.args.steps.now (length nodes)
    (tree_size c.in-Some.expr.now) (prefix_size c.nodes-nodes.ensures.prefix)
    (some_node nodes (ap length c.nodes-nodes.ensures.trees)) c.leaf_sum.ensures.below)

pub returns-in-Some-2-clause-entry : goal.returns-in-Some-2-clause-entry
returns-in-Some-2-clause-entry g c known are =
    rw c.in-Some.is
    ((some_holds _ c.in-Some-2.form (IsFormOf c.args.variables c.nodes-nodes.result.now) c.in-Some-2.is
    c.in_ok-form-in-Some.ensures.form).folded known c.in-Some.expr.now c.nodes-nodes.ensures.tree_formed
    c.nodes-nodes.ensures.trees)

pub returns-in-Some-2-clause-within : goal.returns-in-Some-2-clause-within
returns-in-Some-2-clause-within g c = (some_holds _ c.in-Some-2.form (IsFormOf c.args.variables c.nodes-nodes.result.now) c.in-Some-2.is c.in_ok-form-in-Some.ensures.form).within

pub returns-in-Some-2-clause-below : goal.returns-in-Some-2-clause-below
returns-in-Some-2-clause-below g c =
    let nodes = c.nodes-nodes.result.now in
    rw c.in-Some.is (leaf_bound c.args.variables c.leaf_sum.new.steps c.args.steps.now (length nodes)
    (tree_size c.in-Some.expr.now) (prefix_size c.nodes-nodes.ensures.prefix)
    (some_node nodes (ap length c.nodes-nodes.ensures.trees)) c.leaf_sum.ensures.below)

pub returns-in-None-2-clause-below : goal.returns-in-None-2-clause-below
returns-in-None-2-clause-below g c =
    rw c.in-Some.is (tree_bound c.args.variables c.fold_tree.new.steps c.leaf_sum.new.steps c.args.steps.now
    (length c.nodes-nodes.result.now) (tree_size c.in-Some.expr.now) (prefix_size c.nodes-nodes.ensures.prefix)
    c.leaf_sum.ensures.below c.fold_tree.ensures.below)

pub returns-in-None-clause-entry : goal.returns-in-None-clause-entry
returns-in-None-clause-entry g c known are = rw c.in-None.is (zero_folded known c.args.variables c.new.result c.new.ensures.line)

pub returns-in-None-clause-within : goal.returns-in-None-clause-within
returns-in-None-clause-within g c = constant_within c.args.variables c.new.result zero_ℚ c.new.ensures.line
