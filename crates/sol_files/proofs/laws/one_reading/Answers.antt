use Rattle.sol_files.proofs.ReadingLemmas.{one_reading}
use Rattle.sol_files.proofs.laws.one_reading.Goals as goal

pub returns : goal.returns
returns c = one_reading
