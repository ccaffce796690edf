use Rattle.problems.proofs.Given.{claim_denied}
use Rattle.problems.proofs.nl_laws.claims_are_denied.Goals as goal

pub returns : goal.returns
returns c = claim_denied
