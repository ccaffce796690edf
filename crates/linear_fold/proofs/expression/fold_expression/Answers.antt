use Rattle.std.proofs.Common.{◌≤◌, ◌+◌, ◌*◌, length, sym, option_copied, subst}
use Rattle.std.specs.Option.{option_map_or}
use Rattle.nl_model.specs.Trees.{tree_size}
use Rattle.nl_model.specs.Expressions.{linear_terms, tree_or_zero}
use Rattle.linear_fold.specs.InsideFolds.{IsExpressionFolded}
use Rattle.linear_fold.proofs.Expressions.{both_steps}
use Rattle.linear_fold.proofs.Operators.{if_ok}
use Rattle.linear_fold.proofs.expression.fold_expression.Goals as goal

pub returns-clause-entry : goal.returns-clause-entry
returns-clause-entry g c =
    if_ok c.sum_entry.result _ _
    (λ e h known are.
    subst (λ ts. IsExpressionFolded known c.args.variables (record { tree = tree_or_zero (option_copied c.args.tree); terms = linear_terms ts }) e) c.items.ensures
    (h known (tree_or_zero (option_copied c.args.tree)) (sym c.node_count-first.ensures.nodes) (c.in_ok-entry.ensures.entry known are)))
    c.sum_entry.ensures.entry

pub returns-clause-below : goal.returns-clause-below
returns-clause-below g c =
    both_steps (c.args.variables + 1) (option_map_or tree_size (option_copied c.args.tree) 0) (length c.args.terms.now)
    c.args.steps.now c.tree_entry.new.steps c.sum_entry.new.steps c.tree_entry.ensures.below
    (subst (λ ts. c.sum_entry.new.steps ≤ c.tree_entry.new.steps + 2 * (c.args.variables + 1) * length ts) c.items.ensures c.sum_entry.ensures.below)
