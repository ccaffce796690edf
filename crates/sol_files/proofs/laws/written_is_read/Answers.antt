use Rattle.sol_files.proofs.RoundTrip.{is_read_back}
use Rattle.sol_files.proofs.laws.written_is_read.Goals as goal

pub returns : goal.returns
returns c = is_read_back
