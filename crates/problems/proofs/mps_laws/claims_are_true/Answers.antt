use Rattle.problems.proofs.Claims.{claim_true}
use Rattle.problems.proofs.mps_laws.claims_are_true.Goals as goal

pub returns : goal.returns
returns c = claim_true
