use Rattle.problems.proofs.Verdicts.{file_verdicts}
use Rattle.problems.proofs.nl_laws.verdicts_of_files.Goals as goal

pub returns : goal.returns
returns c = file_verdicts
