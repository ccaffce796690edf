use Rattle.problems.proofs.Meaning.{feasible_points as points}
use Rattle.problems.proofs.mps_laws.feasible_points.Goals as goal

pub returns : goal.returns
returns c = points
