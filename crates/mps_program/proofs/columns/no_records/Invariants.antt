use Rattle.std.proofs.Common.{◌≡◌, replicate}
use Rattle.mps_program.specs.InsideColumns.{none_set}
use Rattle.mps_program.proofs.columns.no_records.Given as goal

abbrev pub invariant-filled : goal.invariant-filled
invariant-filled l = l.columns.items ≡ replicate l.counter none_set
