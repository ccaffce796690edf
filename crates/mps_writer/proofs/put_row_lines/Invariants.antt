use Rattle.std.proofs.Common.{◌≡◌, ◌++◌, map, take}
use Rattle.text_base.specs.WordLines.{lines_text}
use Rattle.mps_model.specs.Text.{row_line}
use Rattle.mps_writer.proofs.put_row_lines.Given as goal

abbrev pub invariant-loop-row : goal.invariant-loop-row
invariant-loop-row l = l.out.items ≡ l.initial.out.items ++ lines_text (map row_line (take l.row-index l.rows))
