use Rattle.row_scaling.proofs.LineLemmas.{rows_written}
use Rattle.row_scaling.proofs.row_lines.put_rows.Goals as goal

pub returns : goal.returns
returns c = rows_written c.args.scaled.now c.args.out.now c.put_line.new.out c.put_row.new.out c.put_listed.new.out c.in_ok-put_line.ensures c.in_ok-put_row.ensures c.in_ok-put_listed.ensures
