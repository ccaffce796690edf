use Rattle.text_base.specs.Reading.{lines_of, last_of}
use Rattle.text_base.proofs.JudgedLemmas.{one_outcome}
use Rattle.nl_segments.specs.Grammar.{nl_rules}
use Rattle.nl_segments.proofs.laws.one_reading.Goals as goal

pub returns-clause-outcome : goal.returns-clause-outcome
returns-clause-outcome c = λ text. one_outcome nl_rules (lines_of text) (last_of text)
