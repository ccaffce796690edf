use Rattle.problems.proofs.Given.{claim_true}
use Rattle.problems.proofs.nl_laws.claims_are_true.Goals as goal

pub returns : goal.returns
returns c = claim_true
