use Rattle.std.proofs.Common.{◌≡◌, ◌++◌, drop, map}
use Rattle.text_base.specs.WordLines.{lines_text}
use Rattle.nl_writer.specs.Written.{interval_line}
use Rattle.nl_writer.proofs.intervals.put_sides.Given as goal

abbrev pub invariant-loop-con : goal.invariant-loop-con
invariant-loop-con l = l.out.items ++ lines_text (map interval_line (drop l.con l.file.sides)) ≡ l.initial.out.items ++ lines_text (map interval_line l.file.sides)
