use Rattle.nl_model.proofs.AllDefinitions.{all_are_linear, before_are_enough}
use Rattle.nl_model.proofs.file_laws.definitions_are_linear.Goals as goal

pub returns-clause-values : goal.returns-clause-values
returns-clause-values c = before_are_enough

pub returns-clause-linear : goal.returns-clause-linear
returns-clause-linear c f k file clean i d there u part = all_are_linear f file i d there u part k clean
