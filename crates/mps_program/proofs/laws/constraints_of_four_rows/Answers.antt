use Rattle.std.proofs.Common.{refl}
use Rattle.mps_model.specs.Mps.{objective_row}
use Rattle.mps_program.specs.Places.{places}
use Rattle.mps_program.specs.Program.{constraints}
use Rattle.mps_program.proofs.laws.constraints_of_four_rows.Goals as goal

pub returns-clause-constraints : goal.returns-clause-constraints
unfolding constraints places
returns-clause-constraints c = refl

pub returns-clause-objective : goal.returns-clause-objective
unfolding objective_row
returns-clause-objective c = refl
