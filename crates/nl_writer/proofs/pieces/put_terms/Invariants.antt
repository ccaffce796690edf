use Rattle.std.proofs.Common.{◌≡◌, ◌++◌, drop, codes}
use Rattle.text_base.specs.WordLines.{lines_text}
use Rattle.nl_writer.specs.Written.{by_number, term_piece}
use Rattle.nl_writer.proofs.pieces.put_terms.Given as goal

abbrev pub invariant-loop-con : goal.invariant-loop-con
invariant-loop-con l = l.out.items ++ lines_text (by_number (term_piece (codes "J")) l.con (drop l.con l.file.terms))
    ≡ l.initial.out.items ++ lines_text (by_number (term_piece (codes "J")) 0 l.file.terms)
