use Rattle.certified_solution.proofs.One.{keeps_rules}
use Rattle.certified_solution.proofs.laws.solutions_are_writable.Goals as goal

pub returns : goal.returns
returns c = keeps_rules
