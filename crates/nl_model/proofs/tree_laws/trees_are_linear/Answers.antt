use Rattle.nl_model.proofs.Linear.{linear_where_clean, expression_linear_where_clean}
use Rattle.nl_model.proofs.PartLemmas.{parts_where_clean}
use Rattle.nl_model.proofs.tree_laws.trees_are_linear.Goals as goal

pub returns-clause-trees : goal.returns-clause-trees
returns-clause-trees c = linear_where_clean

pub returns-clause-parts : goal.returns-clause-parts
returns-clause-parts c = λ n ds t u above formed clean part. parts_where_clean n ds t above formed clean u part

pub returns-clause-expressions : goal.returns-clause-expressions
returns-clause-expressions c = expression_linear_where_clean
