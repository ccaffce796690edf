use Rattle.std.proofs.Common.{◌≡◌, ◌+◌, drop}
use Rattle.std.specs.List.{sum_by}
use Rattle.bridge_tool.specs.Make.{of_column}
use Rattle.bridge_tool.proofs.summary.sum_columns.Given as goal

abbrev pub invariant-loop-column : goal.invariant-loop-column
invariant-loop-column l = l.total + sum_by (of_column l.rows) (drop l.column-index l.columns) ≡ sum_by (of_column l.rows) l.columns
