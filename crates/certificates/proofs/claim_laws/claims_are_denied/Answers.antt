use Rattle.certificates.proofs.ClaimsTold.{told_denied}
use Rattle.certificates.proofs.claim_laws.claims_are_denied.Goals as goal

pub returns : goal.returns
returns c = told_denied
