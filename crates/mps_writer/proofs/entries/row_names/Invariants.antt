use Rattle.std.proofs.Common.{◌≡◌, map, take}
use Rattle.mps_writer.proofs.entries.row_names.Given as goal

abbrev pub invariant-loop-row : goal.invariant-loop-row
invariant-loop-row l = l.names ≡ map (λ r. r.name) (take l.row-index l.rows)
