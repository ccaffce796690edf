use Rattle.scaled_program.proofs.Meaning.{tied_objective, tied_ordered, tied_points, tied_sense}
use Rattle.scaled_program.proofs.laws.tying_keeps_meaning.Goals as goal

pub returns-clause-points : goal.returns-clause-points
returns-clause-points c = tied_points

pub returns-clause-objective : goal.returns-clause-objective
returns-clause-objective c = tied_objective

pub returns-clause-sense : goal.returns-clause-sense
returns-clause-sense c = tied_sense

pub returns-clause-ordered : goal.returns-clause-ordered
returns-clause-ordered c = tied_ordered
