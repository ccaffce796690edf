use Rattle.round_trips.proofs.ReadBack.{exported_back}
use Rattle.round_trips.proofs.Reading.{read_back}
use Rattle.round_trips.proofs.export_laws.exported_is_read.Goals as goal

pub returns-clause-decimal : goal.returns-clause-decimal
returns-clause-decimal c = read_back

pub returns-clause-program : goal.returns-clause-program
returns-clause-program c = exported_back
