use Rattle.std.proofs.Common.{◌≡◌}
use Rattle.mps_program.specs.Places.{listed}
use Rattle.mps_import.specs.InsideUses.{rank, use_of}
use Rattle.mps_import.proofs.rows.row_uses.Given as goal

abbrev pub invariant-rows : goal.invariant-rows
invariant-rows l = record { uses : l.uses.items ≡ listed (use_of l.rows) l.i; count : l.count ≡ rank l.rows l.i }
