use Rattle.bridge_tool.proofs.InstanceTexts.{said}
use Rattle.bridge_tool.proofs.laws.instances_are_said.Goals as goal

pub returns : goal.returns
returns c = said
