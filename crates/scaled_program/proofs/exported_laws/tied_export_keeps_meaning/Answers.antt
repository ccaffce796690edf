use Rattle.scaled_program.proofs.Export.{tied_points, tied_objective, tied_sense}
use Rattle.scaled_program.proofs.exported_laws.tied_export_keeps_meaning.Goals as goal

pub returns-clause-points : goal.returns-clause-points
returns-clause-points c = λ f factor g xs z linear above some count. tied_points f factor g xs z linear above some count

pub returns-clause-objective : goal.returns-clause-objective
returns-clause-objective c = tied_objective

pub returns-clause-sense : goal.returns-clause-sense
returns-clause-sense c = tied_sense
