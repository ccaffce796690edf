use Rattle.certificates.proofs.Branches.{infeasible_tree}
use Rattle.certificates.proofs.duality_laws.infeasible_trees.Goals as goal

pub returns : goal.returns
returns c = infeasible_tree
