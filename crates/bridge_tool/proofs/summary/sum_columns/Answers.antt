use Rattle.std.proofs.Common.{arith}
use Rattle.bridge_tool.proofs.Making.{column_fits, next_column}
use Rattle.bridge_tool.proofs.summary.sum_columns.Goals as goal

pub overflow_add-total : goal.overflow_add-total
overflow_add-total c = record {
  fits = column_fits c.args.rows c.loop-column.total c.count_entries.result c.loop-column.column-index
      c.args.columns.now c.column-item.result c.entries.result.now (omega arith) c.column-item.is c.entries.ensures
      c.count_entries.ensures c.loop-column.invariant c.requires;
}

pub loop-column-preserved : goal.loop-column-preserved
loop-column-preserved c =
    next_column c.args.rows c.loop-column.total c.count_entries.result c.loop-column.column-index c.args.columns.now
    c.column-item.result c.entries.result.now (omega arith) c.column-item.is c.entries.ensures c.count_entries.ensures
    c.loop-column.invariant
