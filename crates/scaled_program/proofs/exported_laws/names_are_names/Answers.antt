use Rattle.scaled_program.proofs.Names.{constraint_is_name, variable_is_name, nl_is_name, obj_is_name, z_is_name, zdef_is_name}
use Rattle.scaled_program.proofs.exported_laws.names_are_names.Goals as goal

pub returns-clause-constraints : goal.returns-clause-constraints
returns-clause-constraints c = constraint_is_name

pub returns-clause-variables : goal.returns-clause-variables
returns-clause-variables c = variable_is_name

pub returns-clause-program : goal.returns-clause-program
returns-clause-program c = nl_is_name

pub returns-clause-objective : goal.returns-clause-objective
returns-clause-objective c = obj_is_name

pub returns-clause-tied_column : goal.returns-clause-tied_column
returns-clause-tied_column c = z_is_name

pub returns-clause-tied_row : goal.returns-clause-tied_row
returns-clause-tied_row c = zdef_is_name
