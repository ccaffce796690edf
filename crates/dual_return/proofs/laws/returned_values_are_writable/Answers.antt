use Rattle.dual_return.proofs.ReturnedRules.{returned_rules}
use Rattle.dual_return.proofs.laws.returned_values_are_writable.Goals as goal

pub returns : goal.returns
returns c = returned_rules
