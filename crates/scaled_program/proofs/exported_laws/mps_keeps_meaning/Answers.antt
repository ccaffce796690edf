use Rattle.scaled_program.proofs.ExportedMeaning.{feasible_same, objective_is, row_sum, sense_same}
use Rattle.scaled_program.proofs.exported_laws.mps_keeps_meaning.Goals as goal

pub returns-clause-points : goal.returns-clause-points
returns-clause-points c = feasible_same

pub returns-clause-objective : goal.returns-clause-objective
returns-clause-objective c = objective_is

pub returns-clause-sense : goal.returns-clause-sense
returns-clause-sense c = sense_same

pub returns-clause-rows : goal.returns-clause-rows
returns-clause-rows c = row_sum
