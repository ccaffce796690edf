use Rattle.scaled_program.proofs.Exported.{plain_points, plain_objective, tied_points_of, tied_objective_of}
use Rattle.scaled_program.proofs.exported_laws.decimal_program_keeps_meaning.Goals as goal

pub returns-clause-points : goal.returns-clause-points
returns-clause-points c = plain_points

pub returns-clause-objective : goal.returns-clause-objective
returns-clause-objective c = plain_objective

pub returns-clause-tied_points : goal.returns-clause-tied_points
returns-clause-tied_points c = tied_points_of

pub returns-clause-tied_objective : goal.returns-clause-tied_objective
returns-clause-tied_objective c = tied_objective_of
