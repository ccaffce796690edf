use Rattle.std.proofs.Common.{rules}
use Rattle.row_scaling.proofs.AddLemmas.{can_add}
use Rattle.row_scaling.proofs.AddLemmas.{filled_column}
use Rattle.row_scaling.proofs.program_columns.add_column.Goals as goal

pub add_column-requires-clause-entries : goal.add_column-requires-clause-entries
add_column-requires-clause-entries c = search (rules, can_add, filled_column)
