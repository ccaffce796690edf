use Rattle.problems.proofs.Files.{feasible_points, relaxed_points}
use Rattle.problems.proofs.nl_laws.problems_have_the_points.Goals as goal

pub returns-clause-feasible : goal.returns-clause-feasible
returns-clause-feasible c = feasible_points

pub returns-clause-relaxed : goal.returns-clause-relaxed
returns-clause-relaxed c = relaxed_points
