use Rattle.certificates.proofs.Parts.{covered}
use Rattle.certificates.proofs.duality_laws.cuts.Goals as goal

pub returns : goal.returns
returns c = covered
