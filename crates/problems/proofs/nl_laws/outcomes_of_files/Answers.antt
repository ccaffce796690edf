use Rattle.problems.proofs.Verdicts.{file_outcomes}
use Rattle.problems.proofs.nl_laws.outcomes_of_files.Goals as goal

pub returns : goal.returns
returns c = file_outcomes
