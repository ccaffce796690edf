use Rattle.certificates.proofs.Branches.{infeasible}
use Rattle.certificates.proofs.duality_laws.infeasibility_proofs.Goals as goal

pub returns : goal.returns
returns c = infeasible
