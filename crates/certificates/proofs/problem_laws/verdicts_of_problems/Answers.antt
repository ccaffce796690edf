use Rattle.certificates.proofs.Problems.{verdicts}
use Rattle.certificates.proofs.problem_laws.verdicts_of_problems.Goals as goal

pub returns : goal.returns
returns c = verdicts
