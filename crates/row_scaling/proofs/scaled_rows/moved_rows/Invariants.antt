use Rattle.std.proofs.Common.{◌≡◌, length, drop}
use Rattle.std.specs.Vec.Iter.{into_iter_items, into_iter_len}
use Rattle.linear_program.specs.Programs.{LinearValue}
use Rattle.row_scaling.specs.InsideMoves.{HasRows}
use Rattle.row_scaling.proofs.LinearLemmas.{AreFirstRows}
use Rattle.row_scaling.proofs.scaled_rows.moved_rows.Given as goal

abbrev pub invariant-loop-con : goal.invariant-loop-con
invariant-loop-con l =
    ((p : LinearValue) → HasRows p l.fn.bodies.items l.sides → AreFirstRows p l.rows.items l.con)
    × (into_iter_items l.rest ≡ drop l.con l.fn.bodies.items)
    × (into_iter_len l.rest ≡ length (into_iter_items l.rest))
