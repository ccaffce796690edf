use Rattle.bridge_tool.proofs.NamedExporting.{named_export_back}
use Rattle.bridge_tool.proofs.laws.named_exports_are_read_back.Goals as goal

pub returns : goal.returns
returns c = named_export_back
