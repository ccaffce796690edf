use Rattle.std.proofs.Common.{◌≡◌, ◌++◌, drop, codes}
use Rattle.text_base.specs.WordLines.{lines_text}
use Rattle.nl_writer.specs.Written.{by_number, term_piece}
use Rattle.nl_writer.proofs.pieces.put_slopes.Given as goal

abbrev pub invariant-loop-k : goal.invariant-loop-k
invariant-loop-k l = l.out.items ++ lines_text (by_number (term_piece (codes "G")) l.k (drop l.k l.file.slopes))
    ≡ l.initial.out.items ++ lines_text (by_number (term_piece (codes "G")) 0 l.file.slopes)
