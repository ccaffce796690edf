use Rattle.round_trips.proofs.Rewriting.{writable}
use Rattle.round_trips.proofs.nl_laws.what_is_read_is_writable.Goals as goal

pub returns : goal.returns
returns c = writable
