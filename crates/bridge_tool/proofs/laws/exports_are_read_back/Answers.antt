use Rattle.bridge_tool.proofs.Exporting.{exports_back}
use Rattle.bridge_tool.proofs.laws.exports_are_read_back.Goals as goal

pub returns : goal.returns
returns c = exports_back
