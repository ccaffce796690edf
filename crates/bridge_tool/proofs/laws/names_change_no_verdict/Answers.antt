use Rattle.bridge_tool.proofs.NamedExporting.{same_verdict}
use Rattle.bridge_tool.proofs.laws.names_change_no_verdict.Goals as goal

pub returns : goal.returns
returns c = same_verdict
