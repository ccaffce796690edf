use Rattle.branch_proof.proofs.ReadingLemmas.{one_reading as one_reading_lem}
use Rattle.branch_proof.proofs.laws.one_reading.Goals as goal

pub returns : goal.returns
returns c = one_reading_lem
