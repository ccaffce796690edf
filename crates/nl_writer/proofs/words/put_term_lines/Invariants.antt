use Rattle.std.proofs.Common.{◌≡◌, ◌++◌, take}
use Rattle.text_base.specs.WordLines.{lines_text}
use Rattle.nl_writer.specs.Written.{term_lines}
use Rattle.nl_writer.proofs.words.put_term_lines.Given as goal

abbrev pub invariant-loop-term : goal.invariant-loop-term
invariant-loop-term l = l.out.items ≡ l.initial.out.items ++ lines_text (term_lines (take l.term-index l.terms))
