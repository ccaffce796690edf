use Rattle.written_texts.proofs.WordLemmas.{words-spaced, words-indented, kept-spaced}
use Rattle.written_texts.proofs.laws.words_are_read.Goals as goal

pub returns-clause-words : goal.returns-clause-words
returns-clause-words c = words-spaced

pub returns-clause-indented : goal.returns-clause-indented
returns-clause-indented c = words-indented

pub returns-clause-comments : goal.returns-clause-comments
returns-clause-comments c = kept-spaced
