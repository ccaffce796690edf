use Rattle.certificates.proofs.Problems.{none_relaxed}
use Rattle.certificates.proofs.problem_laws.infeasible_problems.Goals as goal

pub returns : goal.returns
returns c = none_relaxed
