use Rattle.std.proofs.Common.{[], get_or}
use Rattle.nl_model.specs.Expressions.{definitions_of, body_of, objective_of}
use Rattle.nl_model.proofs.Plain.{plain_has_lines, plain_constant, plain_coefficient}
use Rattle.nl_model.proofs.file_laws.plain_files_are_linear.Goals as goal

pub returns-clause-lines : goal.returns-clause-lines
returns-clause-lines c = plain_has_lines

pub returns-clause-constants : goal.returns-clause-constants
returns-clause-constants c = λ f k plain i h. plain_constant (definitions_of f) (body_of f i).tree (get_or f.terms i []) (plain.bodies i h)

pub returns-clause-coefficients : goal.returns-clause-coefficients
returns-clause-coefficients c = λ f k plain i h. plain_coefficient (definitions_of f) (body_of f i).tree (get_or f.terms i []) (plain.bodies i h)

pub returns-clause-objective_constant : goal.returns-clause-objective_constant
returns-clause-objective_constant c = λ f k plain. plain_constant (definitions_of f) (objective_of f k).tree (get_or f.slopes k []) plain.objective

pub returns-clause-objective_coefficients : goal.returns-clause-objective_coefficients
returns-clause-objective_coefficients c = λ f k plain. plain_coefficient (definitions_of f) (objective_of f k).tree (get_or f.slopes k []) plain.objective
