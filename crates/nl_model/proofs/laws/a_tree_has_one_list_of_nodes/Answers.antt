use Rattle.nl_model.proofs.OneList.{one_list}
use Rattle.nl_model.proofs.laws.a_tree_has_one_list_of_nodes.Goals as goal

pub returns : goal.returns
returns c = one_list
