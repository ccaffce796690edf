use Rattle.scaled_program.proofs.Names.{constraints_apart, variables_apart, constraint_not_obj, constraint_not_zdef}
use Rattle.scaled_program.proofs.Names.{constraint_not_marker, obj_not_zdef, obj_not_marker, zdef_not_marker}
use Rattle.scaled_program.proofs.Names.{variable_not_z}
use Rattle.scaled_program.proofs.exported_laws.names_differ.Goals as goal

pub returns-clause-constraints : goal.returns-clause-constraints
returns-clause-constraints c = constraints_apart

pub returns-clause-variables : goal.returns-clause-variables
returns-clause-variables c = variables_apart

pub returns-clause-objective : goal.returns-clause-objective
returns-clause-objective c = constraint_not_obj

pub returns-clause-tied_row : goal.returns-clause-tied_row
returns-clause-tied_row c = constraint_not_zdef

pub returns-clause-tied_column : goal.returns-clause-tied_column
returns-clause-tied_column c = variable_not_z

pub returns-clause-objective_and_tied_row : goal.returns-clause-objective_and_tied_row
returns-clause-objective_and_tied_row c = obj_not_zdef

pub returns-clause-markers : goal.returns-clause-markers
returns-clause-markers c = (constraint_not_marker, obj_not_marker, zdef_not_marker)
