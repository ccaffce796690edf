use Rattle.bridge_tool.proofs.FileLimits.{file_exportable, file_named}
use Rattle.bridge_tool.proofs.laws.files_are_exportable.Goals as goal

pub returns-clause-named : goal.returns-clause-named
returns-clause-named c = file_named

pub returns-clause-within : goal.returns-clause-within
returns-clause-within c = file_exportable
