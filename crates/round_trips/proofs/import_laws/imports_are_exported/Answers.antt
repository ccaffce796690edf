use Rattle.round_trips.proofs.Decimals.{objective_decimal}
use Rattle.round_trips.proofs.Exporting.{same_points, same_objective, same_sense}
use Rattle.round_trips.proofs.import_laws.imports_are_exported.Goals as goal

pub returns-clause-decimal : goal.returns-clause-decimal
returns-clause-decimal c = objective_decimal

pub returns-clause-points : goal.returns-clause-points
returns-clause-points c = λ m p xs valid clean exports. same_points m clean p exports (objective_decimal m valid) xs

pub returns-clause-objective : goal.returns-clause-objective
returns-clause-objective c = λ m p xs valid clean exports. same_objective m clean p exports (objective_decimal m valid) xs

pub returns-clause-sense : goal.returns-clause-sense
returns-clause-sense c = λ m p valid clean exports. same_sense m clean p exports (objective_decimal m valid)
