use Rattle.nl_model.proofs.Example.{example_value, example_refused, example_nonlinear, example_too_wide}
use Rattle.nl_model.proofs.tree_laws.example_has_its_value_and_faults.Goals as goal

pub returns-clause-value : goal.returns-clause-value
returns-clause-value c = example_value

pub returns-clause-refused : goal.returns-clause-refused
returns-clause-refused c = example_refused

pub returns-clause-nonlinear : goal.returns-clause-nonlinear
returns-clause-nonlinear c = example_nonlinear

pub returns-clause-too_wide : goal.returns-clause-too_wide
returns-clause-too_wide c = example_too_wide
