use Rattle.certificates.proofs.Problems.{not_at_objective}
use Rattle.certificates.proofs.problem_laws.objectives_are_wide_at_feasible_points.Goals as goal

pub returns : goal.returns
returns c = not_at_objective
