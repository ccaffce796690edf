use Rattle.nl_model.proofs.Folding.{body_parts_are_linear, definition_parts_are_linear, objective_parts_are_linear}
use Rattle.nl_model.proofs.file_laws.parts_are_linear.Goals as goal

pub returns-clause-definitions : goal.returns-clause-definitions
returns-clause-definitions c = definition_parts_are_linear

pub returns-clause-bodies : goal.returns-clause-bodies
returns-clause-bodies c = body_parts_are_linear

pub returns-clause-objective : goal.returns-clause-objective
returns-clause-objective c = objective_parts_are_linear
