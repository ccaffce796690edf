use Rattle.round_trips.proofs.Rewriting.{written_again}
use Rattle.round_trips.proofs.nl_laws.what_is_read_is_written_again.Goals as goal

pub returns : goal.returns
returns c = written_again
