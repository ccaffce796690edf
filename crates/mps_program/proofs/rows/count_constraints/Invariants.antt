use Rattle.std.proofs.Common.{◌≡◌, length}
use Rattle.mps_program.specs.Places.{places}
use Rattle.mps_program.specs.Program.{is_constraint}
use Rattle.mps_program.proofs.rows.count_constraints.Given as goal

abbrev pub invariant-rows : goal.invariant-rows
invariant-rows l = l.count ≡ length (places (is_constraint l.rows) l.row-index)
