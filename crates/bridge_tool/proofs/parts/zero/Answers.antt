use Rattle.bridge_tool.proofs.NumberLemmas.{zero_tree}
use Rattle.bridge_tool.proofs.parts.zero.Goals as goal

pub returns : goal.returns
returns c = zero_tree c.zero.result c.finish.result _ _ c.zero.ensures c.finish.ensures.tree c.in_ok-push.ensures.ok c.new-nodes.ensures
