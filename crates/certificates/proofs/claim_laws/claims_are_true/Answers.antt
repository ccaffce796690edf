use Rattle.certificates.proofs.ClaimsTold.{told_true}
use Rattle.certificates.proofs.claim_laws.claims_are_true.Goals as goal

pub returns : goal.returns
returns c = told_true
