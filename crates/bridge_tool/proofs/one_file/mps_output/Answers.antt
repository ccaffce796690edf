use Rattle.bridge_tool.proofs.OneFile.{mps_meant}
use Rattle.bridge_tool.proofs.one_file.mps_output.Goals as goal

pub returns-clause-means : goal.returns-clause-means
returns-clause-means c = mps_meant c.args.mps.now c.rows.ensures.valid
