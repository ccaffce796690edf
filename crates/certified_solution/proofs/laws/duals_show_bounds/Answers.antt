use Rattle.certified_solution.proofs.Signs.{duals_show}
use Rattle.certified_solution.proofs.laws.duals_show_bounds.Goals as goal

pub returns : goal.returns
returns c = duals_show
