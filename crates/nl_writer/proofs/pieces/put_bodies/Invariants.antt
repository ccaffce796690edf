use Rattle.std.proofs.Common.{◌≡◌, ◌++◌, drop}
use Rattle.text_base.specs.WordLines.{lines_text}
use Rattle.nl_writer.specs.Written.{by_number, body_piece}
use Rattle.nl_writer.proofs.pieces.put_bodies.Given as goal

abbrev pub invariant-loop-con : goal.invariant-loop-con
invariant-loop-con l = l.out.items ++ lines_text (by_number body_piece l.con (drop l.con l.file.bodies)) ≡ l.initial.out.items ++ lines_text (by_number body_piece 0 l.file.bodies)
