use Rattle.text_base.proofs.LineLemmas.{lines_of-lines, lines_so_far-lines}
use Rattle.text_base.proofs.laws.lines_are_lines.Goals as goal

pub returns-clause-whole : goal.returns-clause-whole
returns-clause-whole c = lines_of-lines

pub returns-clause-so_far : goal.returns-clause-so_far
returns-clause-so_far c = lines_so_far-lines
