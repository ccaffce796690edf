use Rattle.nl_model.proofs.Prefixes.{nodes_are_tree}
use Rattle.nl_model.proofs.laws.nodes_are_their_tree.Goals as goal

pub returns : goal.returns
returns c = nodes_are_tree
