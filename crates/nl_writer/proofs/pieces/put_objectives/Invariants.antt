use Rattle.std.proofs.Common.{◌≡◌, ◌++◌, drop}
use Rattle.text_base.specs.WordLines.{lines_text}
use Rattle.nl_writer.specs.Written.{by_number, objective_piece}
use Rattle.nl_writer.proofs.pieces.put_objectives.Given as goal

abbrev pub invariant-loop-k : goal.invariant-loop-k
invariant-loop-k l = l.out.items ++ lines_text (by_number objective_piece l.k (drop l.k l.file.objectives)) ≡ l.initial.out.items ++ lines_text (by_number objective_piece 0 l.file.objectives)
