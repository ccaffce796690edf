use Rattle.std.proofs.Common.{arith}
use Rattle.std.proofs.lemmas.Grind.{common_steps}
use Rattle.mps_words.proofs.words.blanks_len.Goals as goal

pub bytes-preserved : goal.bytes-preserved
bytes-preserved c = grind (arith, common_steps)

pub returns-clause-place : goal.returns-clause-place
returns-clause-place c = grind (arith, common_steps)
