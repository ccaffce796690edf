use Rattle.round_trips.proofs.WholeLaw.{written_is_read}
use Rattle.round_trips.proofs.nl_laws.written_is_read.Goals as goal

pub returns : goal.returns
returns c = written_is_read
