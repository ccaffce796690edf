use Rattle.nl_model.proofs.Folding.{clean_has_lines, defined_has_line}
use Rattle.nl_model.proofs.file_laws.files_without_faults_are_linear.Goals as goal

pub returns-clause-defined : goal.returns-clause-defined
returns-clause-defined c = defined_has_line

pub returns-clause-lines : goal.returns-clause-lines
returns-clause-lines c = clean_has_lines
