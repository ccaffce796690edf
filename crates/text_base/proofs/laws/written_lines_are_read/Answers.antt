use Rattle.text_base.proofs.ReadingLemmas.{written_lines}
use Rattle.text_base.proofs.laws.written_lines_are_read.Goals as goal

pub returns-clause-lines : goal.returns-clause-lines
returns-clause-lines c lines all room = (written_lines lines all room).0

pub returns-clause-end : goal.returns-clause-end
returns-clause-end c lines all room = (written_lines lines all room).1
