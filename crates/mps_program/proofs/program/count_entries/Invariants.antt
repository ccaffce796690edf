use Rattle.std.proofs.Common.{◌≡◌, ◌+◌, drop}
use Rattle.mps_model.specs.Valid.{entry_count}
use Rattle.mps_program.proofs.program.count_entries.Given as goal

abbrev pub invariant-columns : goal.invariant-columns
invariant-columns l = l.count + entry_count (drop l.column-index l.columns) ≡ entry_count l.columns
