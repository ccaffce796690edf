use Rattle.std.proofs.Common.{rules}
use Rattle.mps_model.specs.Mps.{objective_row}
use Rattle.call_tests.proofs.written.writes_a_program.Goals as goal

pub finish-mps-requires : goal.finish-mps-requires
unfolding objective_row
finish-mps-requires g c = search rules
