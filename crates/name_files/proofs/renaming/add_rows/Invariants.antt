use Rattle.std.proofs.Common.{◌≡◌, take}
use Rattle.name_files.specs.Renamed.{named_rows}
use Rattle.name_files.proofs.renaming.add_rows.Given as goal

abbrev pub invariant-loop-row : goal.invariant-loop-row
invariant-loop-row l = l.builder ≡ record l.initial.builder { rows = named_rows l.names (take l.row-index l.rows) }
