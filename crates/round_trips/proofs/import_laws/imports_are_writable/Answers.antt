use Rattle.round_trips.proofs.Writing.{writable}
use Rattle.round_trips.proofs.import_laws.imports_are_writable.Goals as goal

pub returns : goal.returns
returns c = writable
