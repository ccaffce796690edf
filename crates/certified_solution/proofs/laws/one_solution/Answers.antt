use Rattle.certified_solution.proofs.One.{one_solution}
use Rattle.certified_solution.proofs.laws.one_solution.Goals as goal

pub returns : goal.returns
returns c = one_solution
