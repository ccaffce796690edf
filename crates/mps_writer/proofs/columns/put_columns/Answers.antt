use Rattle.std.proofs.Common.{arith, ◌∙◌, codes, false}
use Rattle.exact_numbers.specs.Values.{text_of}
use Rattle.mps_model.specs.Text.{column_lines}
use Rattle.mps_writer.proofs.Writing.{markers_more, column_written, last_change, column_rows, section_written}
use Rattle.mps_writer.proofs.columns.put_columns.Goals as goal

pub put_entries-requires-clause-within : goal.put_entries-requires-clause-within
put_entries-requires-clause-within c = column_rows _ c.args.columns.now c.loop-column.column-index c.column-item.result
    c.entries.result.now (omega arith) c.requires.columns c.column-item.is c.entries.ensures

pub loop-column-preserved : goal.loop-column-preserved
loop-column-preserved c = record {
  few = omega (arith, c.in_ok-markers.ensures.0, markers_more c.loop-column.before c.marked.result c.loop-column.markers, c.loop-column.invariant.few);
  text = column_written text_of c.args.rows.now c.args.columns.now c.loop-column.before c.loop-column.markers c.loop-column.column-index
      c.column-item.result c.loop-column.out.items c.put_change.new.out.items c.put_entries.new.out.items _ c.bytes.result.now _ c.marked.result c.marked-before.result c.in_ok-markers.markers
      (omega arith) c.column-item.is c.loop-column.invariant.text c.marked.ensures c.marked-before.ensures
      (c.bytes.ensures.value ∙ c.name-name.ensures) c.entries.ensures c.in_ok-markers.ensures.0
      c.in_ok-markers.ensures.1 c.in_ok-put_entries.ensures;
}

pub returns : goal.returns
returns c =
    section_written (codes "COLUMNS") (column_lines text_of c.args.rows.now false 0 c.args.columns.now) c.args.out.now.items c.put_line.new.out.items _ c.in_ok-put_line.ensures
    (last_change text_of c.args.rows.now c.args.columns.now c.loop-column.before c.loop-column.markers
    c.loop-column.column-index c.loop-column.out.items c.put_change-2.new.out.items _ (omega arith)
    c.loop-column.invariant.text c.in_ok-put_change.ensures.1)
