use Rattle.std.proofs.Common.{◌∙◌, ap, sym, option_copied}
use Rattle.nl_model.specs.Trees.{tree_size}
use Rattle.nl_model.specs.Expressions.{tree_or_zero}
use Rattle.linear_fold.proofs.Expressions.{prefix_size}
use Rattle.linear_fold.proofs.expression.node_count.Goals as goal

pub returns-in-Some-clause-nodes : goal.returns-in-Some-clause-nodes
returns-in-Some-clause-nodes c = prefix_size c.nodes.ensures.prefix ∙ ap (λ t. tree_size (tree_or_zero (option_copied t))) (sym c.in-Some.is)
