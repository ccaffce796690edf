use Rattle.bridge_tool.proofs.Exporting.{exports_mean}
use Rattle.bridge_tool.proofs.laws.programs_mean_their_files.Goals as goal

pub returns : goal.returns
returns c = exports_mean
