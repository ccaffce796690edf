use Rattle.bridge_tool.proofs.Making.{make_leaves, make_worked}
use Rattle.bridge_tool.proofs.make.make.Goals as goal

pub returns-clause-worked : goal.returns-clause-worked
returns-clause-worked g c = make_worked c.args.seed c.args.size c.requires _ _ _ _ c.to_output-judged.ensures.comes c.end.ensures

pub returns-clause-leaves : goal.returns-clause-leaves
returns-clause-leaves g c = make_leaves _ _ _ _ c.end.ensures
