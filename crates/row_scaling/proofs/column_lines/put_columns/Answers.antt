use Rattle.row_scaling.proofs.LineLemmas.{columns_written}
use Rattle.row_scaling.proofs.column_lines.put_columns.Goals as goal

pub returns : goal.returns
returns c = λ s h columns.
    columns_written s h.scaled _ c.in_ok-end.end.marked c.in_ok-end.end.markers c.args.out.now c.put_line.new.out c.put_parts.new.out c.put_change.new.out
    h.count c.in_ok-put_line.ensures (c.in_ok-end.ensures.text s h columns) c.in_ok-put_change.ensures.1
