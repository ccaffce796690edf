use Rattle.mps_program.proofs.LawLemmas.{feasible_lem, objective_lem, sense_lem, linear_lem}
use Rattle.mps_program.proofs.laws.linear_program_keeps_meaning.Goals as goal

pub returns-clause-feasible : goal.returns-clause-feasible
returns-clause-feasible c = λ m xs. feasible_lem m xs

pub returns-clause-objective : goal.returns-clause-objective
returns-clause-objective c = λ m xs. objective_lem m xs

pub returns-clause-sense : goal.returns-clause-sense
returns-clause-sense c = λ m. sense_lem m

pub returns-clause-linear : goal.returns-clause-linear
returns-clause-linear c = λ m. linear_lem m
