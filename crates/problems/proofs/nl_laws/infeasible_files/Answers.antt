use Rattle.problems.proofs.Verdicts.{file_broken}
use Rattle.problems.proofs.nl_laws.infeasible_files.Goals as goal

pub returns : goal.returns
returns c = file_broken
