use Rattle.text_base.specs.Reading.{lines_of, last_of, lines_so_far, last_so_far}
use Rattle.text_base.proofs.JudgedLemmas.{one_outcome}
use Rattle.text_base.proofs.laws.one_outcome.Goals as goal

pub returns-clause-whole : goal.returns-clause-whole
returns-clause-whole g c = λ rules text. one_outcome rules (lines_of text) (last_of text)

pub returns-clause-so_far : goal.returns-clause-so_far
returns-clause-so_far g c = λ rules text. one_outcome rules (lines_so_far text) (last_so_far text)
