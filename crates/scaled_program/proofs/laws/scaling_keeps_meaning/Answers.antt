use Rattle.scaled_program.proofs.Meaning.{ordered, same_objective, same_points, same_sense}
use Rattle.scaled_program.proofs.laws.scaling_keeps_meaning.Goals as goal

pub returns-clause-points : goal.returns-clause-points
returns-clause-points c = same_points

pub returns-clause-objective : goal.returns-clause-objective
returns-clause-objective c = same_objective

pub returns-clause-sense : goal.returns-clause-sense
returns-clause-sense c = same_sense

pub returns-clause-ordered : goal.returns-clause-ordered
returns-clause-ordered c = ordered
