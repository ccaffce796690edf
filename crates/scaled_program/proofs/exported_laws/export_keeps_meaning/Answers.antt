use Rattle.scaled_program.proofs.Export.{same_points, same_objective, same_sense}
use Rattle.scaled_program.proofs.exported_laws.export_keeps_meaning.Goals as goal

pub returns-clause-points : goal.returns-clause-points
returns-clause-points c = same_points

pub returns-clause-objective : goal.returns-clause-objective
returns-clause-objective c = same_objective

pub returns-clause-sense : goal.returns-clause-sense
returns-clause-sense c = same_sense
