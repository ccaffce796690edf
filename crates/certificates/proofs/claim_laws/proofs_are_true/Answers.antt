use Rattle.certificates.proofs.ClaimsTold.{proved_true}
use Rattle.certificates.proofs.claim_laws.proofs_are_true.Goals as goal

pub returns : goal.returns
returns c = proved_true
