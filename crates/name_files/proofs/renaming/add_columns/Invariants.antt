use Rattle.std.proofs.Common.{◌≡◌, take}
use Rattle.name_files.specs.Renamed.{named_columns}
use Rattle.name_files.proofs.renaming.add_columns.Given as goal

abbrev pub invariant-loop-column : goal.invariant-loop-column
invariant-loop-column l = l.builder ≡ record l.initial.builder { columns = named_columns l.names (take l.column-index l.columns) }
