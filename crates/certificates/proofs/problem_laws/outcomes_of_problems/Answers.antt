use Rattle.certificates.proofs.Problems.{outcomes}
use Rattle.certificates.proofs.problem_laws.outcomes_of_problems.Goals as goal

pub returns : goal.returns
returns c = outcomes
