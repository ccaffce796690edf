use Rattle.std.proofs.Common.{◌≡◌, ◌++◌, drop, map}
use Rattle.text_base.specs.WordLines.{lines_text}
use Rattle.nl_writer.specs.Written.{interval_line}
use Rattle.nl_writer.proofs.intervals.put_bounds.Given as goal

abbrev pub invariant-loop-var : goal.invariant-loop-var
invariant-loop-var l = l.out.items ++ lines_text (map interval_line (drop l.var l.file.bounds)) ≡ l.initial.out.items ++ lines_text (map interval_line l.file.bounds)
