use Rattle.std.proofs.Common.{◌≡◌, ◌+◌, drop}
use Rattle.mps_model.specs.Mps.{objective_row}
use Rattle.mps_program.proofs.rows.objective_row.Given as goal

abbrev pub invariant-rows : goal.invariant-rows
invariant-rows l = l.i + objective_row (drop l.i l.rows) ≡ objective_row l.rows
