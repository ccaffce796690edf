use Rattle.certificates.proofs.Problems.{lone_leaf}
use Rattle.certificates.proofs.problem_laws.lone_gaps_are_bounds.Goals as goal

pub returns : goal.returns
returns c = lone_leaf
