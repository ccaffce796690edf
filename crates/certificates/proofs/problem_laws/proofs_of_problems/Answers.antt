use Rattle.certificates.proofs.Problems.{bounds}
use Rattle.certificates.proofs.problem_laws.proofs_of_problems.Goals as goal

pub returns : goal.returns
returns c = bounds
