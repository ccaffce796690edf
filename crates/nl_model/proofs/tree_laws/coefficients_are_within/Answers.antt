use Rattle.nl_model.proofs.Local.{no_coefficient_beyond}
use Rattle.nl_model.proofs.tree_laws.coefficients_are_within.Goals as goal

pub returns : goal.returns
returns c = no_coefficient_beyond
