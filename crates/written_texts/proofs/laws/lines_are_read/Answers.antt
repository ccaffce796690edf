use Rattle.written_texts.proofs.LineLemmas.{lines-read}
use Rattle.written_texts.proofs.laws.lines_are_read.Goals as goal

pub returns-clause-lines : goal.returns-clause-lines
returns-clause-lines c = λ lines all room. let both = lines-read lines all room in both.0

pub returns-clause-end : goal.returns-clause-end
returns-clause-end c = λ lines all room. let both = lines-read lines all room in both.1
