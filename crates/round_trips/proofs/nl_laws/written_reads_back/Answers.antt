use Rattle.round_trips.proofs.WholeLaw.{reads_back}
use Rattle.round_trips.proofs.nl_laws.written_reads_back.Goals as goal

pub returns : goal.returns
returns c = reads_back
