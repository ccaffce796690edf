use Rattle.bridge_tool.proofs.InstanceTexts.{writable}
use Rattle.bridge_tool.proofs.laws.instances_are_writable.Goals as goal

pub returns : goal.returns
returns c = writable
