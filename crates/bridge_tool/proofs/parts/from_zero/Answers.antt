use Rattle.bridge_tool.proofs.NumberLemmas.{above_zero}
use Rattle.bridge_tool.proofs.parts.from_zero.Goals as goal

pub returns-clause-ordered : goal.returns-clause-ordered
returns-clause-ordered c = above_zero c.args.most c.whole.result c.whole-2.result c.whole.ensures.value c.whole-2.ensures.value
