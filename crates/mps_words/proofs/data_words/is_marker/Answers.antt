use Rattle.std.proofs.Common.{arith}
use Rattle.std.proofs.lemmas.Grind.{common_steps}
use Rattle.mps_words.proofs.data_words.is_marker.Goals as goal

pub returns-else-words-eq3 : goal.returns-else-words-eq3
returns-else-words-eq3 c = grind (arith, common_steps)

pub returns-then-words-eq3 : goal.returns-then-words-eq3
returns-then-words-eq3 c = grind (arith, common_steps)
