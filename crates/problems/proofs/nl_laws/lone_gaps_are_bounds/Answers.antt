use Rattle.problems.proofs.Verdicts.{file_gaps}
use Rattle.problems.proofs.nl_laws.lone_gaps_are_bounds.Goals as goal

pub returns : goal.returns
returns c = file_gaps
