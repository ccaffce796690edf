use Rattle.std.proofs.Common.{◌≡◌, ◌≤◌, ◌++◌, drop, false}
use Rattle.exact_numbers.specs.Values.{text_of}
use Rattle.text_base.specs.WordLines.{lines_text}
use Rattle.mps_model.specs.Text.{column_lines}
use Rattle.mps_writer.proofs.columns.put_columns.Given as goal

abbrev pub invariant-loop-column : goal.invariant-loop-column
invariant-loop-column l = record {
  few : l.markers ≤ l.column-index;
  text : l.out.items ++ lines_text (column_lines text_of l.rows l.before l.markers (drop l.column-index l.columns)) ≡ l.initial.out.items ++ lines_text (column_lines text_of l.rows false 0 l.columns);
}
