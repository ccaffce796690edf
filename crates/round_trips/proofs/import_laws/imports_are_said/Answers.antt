use Rattle.round_trips.proofs.Writing.{no_other, said}
use Rattle.round_trips.proofs.import_laws.imports_are_said.Goals as goal

pub returns-clause-said : goal.returns-clause-said
returns-clause-said c = said

pub returns-clause-only : goal.returns-clause-only
returns-clause-only c = no_other
