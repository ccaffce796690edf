use Rattle.dual_return.proofs.OneReturn.{one-return}
use Rattle.dual_return.proofs.laws.one_return.Goals as goal

pub returns : goal.returns
returns c = one-return
