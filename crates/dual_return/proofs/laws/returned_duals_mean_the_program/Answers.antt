use Rattle.dual_return.proofs.LawOfReturn.{duals_mean}
use Rattle.dual_return.proofs.laws.returned_duals_mean_the_program.Goals as goal

pub returns : goal.returns
returns c = duals_mean
