use Rattle.std.proofs.Common.{◌≡◌, ◌++◌, map, take}
use Rattle.exact_numbers.specs.Values.{text_of}
use Rattle.text_base.specs.WordLines.{lines_text}
use Rattle.mps_model.specs.Text.{bound_line}
use Rattle.mps_model.specs.Built.{bound_of}
use Rattle.mps_writer.proofs.bounds.put_bound_lines.Given as goal

abbrev pub invariant-loop-bound : goal.invariant-loop-bound
invariant-loop-bound l = l.out.items ≡ l.initial.out.items ++ lines_text (map (bound_line text_of l.columns) (map bound_of (take l.bound-index l.bounds)))
