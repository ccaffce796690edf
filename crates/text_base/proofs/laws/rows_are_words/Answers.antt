use Rattle.std.proofs.Common.{arith, length-take}
use Rattle.std.proofs.lemmas.List.{take_all}
use Rattle.text_base.specs.Words.{words_of}
use Rattle.text_base.proofs.laws.rows_are_words.Goals as goal

pub returns-clause-all : goal.returns-clause-all
returns-clause-all c = λ line few. take_all 12 (words_of line) few

pub returns-clause-many : goal.returns-clause-many
returns-clause-many c = λ line many. omega (arith, length-take 12 (words_of line))
