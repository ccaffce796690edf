use Rattle.bridge_tool.proofs.OneFile.{export_by_text, fixed_by_text, import_by_text, mps_by_text, nl_by_text, sol_by_text}
use Rattle.bridge_tool.proofs.laws.commands_by_text.Goals as goal

pub returns-clause-export : goal.returns-clause-export
returns-clause-export c = export_by_text

pub returns-clause-nl : goal.returns-clause-nl
returns-clause-nl c = nl_by_text

pub returns-clause-mps : goal.returns-clause-mps
returns-clause-mps c = mps_by_text

pub returns-clause-fixed : goal.returns-clause-fixed
returns-clause-fixed c = fixed_by_text

pub returns-clause-sol : goal.returns-clause-sol
returns-clause-sol c = sol_by_text

pub returns-clause-import : goal.returns-clause-import
returns-clause-import c = import_by_text
