use Rattle.nl_model.proofs.Files.{same_feasible, same_relaxed, same_objective, same_sense, linear_lem}
use Rattle.nl_model.proofs.file_laws.files_are_linear.Goals as goal

pub returns-clause-feasible : goal.returns-clause-feasible
returns-clause-feasible c = same_feasible

pub returns-clause-relaxed : goal.returns-clause-relaxed
returns-clause-relaxed c = same_relaxed

pub returns-clause-objective : goal.returns-clause-objective
returns-clause-objective c = same_objective

pub returns-clause-sense : goal.returns-clause-sense
returns-clause-sense c = same_sense

pub returns-clause-linear : goal.returns-clause-linear
returns-clause-linear c = linear_lem
