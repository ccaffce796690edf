use Rattle.std.proofs.Common.{arith}
use Rattle.std.proofs.lemmas.Grind.{common_steps}
use Rattle.mps_reader.proofs.state.State.take_name.Goals as goal

pub returns-in-Err : goal.returns-in-Err
returns-in-Err c = grind (arith, common_steps)

pub returns-then-words-lt2 : goal.returns-then-words-lt2
returns-then-words-lt2 c = grind (arith, common_steps)
