use Rattle.scaled_program.proofs.ExportedReturn.{law_of_return, law_of_return_tied}
use Rattle.scaled_program.proofs.exported_laws.duals_return.Goals as goal

pub returns-clause-plain : goal.returns-clause-plain
returns-clause-plain c = law_of_return

pub returns-clause-tied : goal.returns-clause-tied
returns-clause-tied c = law_of_return_tied
