use Rattle.problems.proofs.Claims.{claim_denied}
use Rattle.problems.proofs.mps_laws.claims_are_denied.Goals as goal

pub returns : goal.returns
returns c = claim_denied
