use Rattle.std.proofs.Common.{arith}
use Rattle.std.proofs.lemmas.Grind.{common_steps}
use Rattle.mps_reader.specs.Tests.{sense_tests}
use Rattle.mps_reader.proofs.state.State.take_sense_line.Goals as goal

pub returns : goal.returns
unfolding sense_tests
returns c = grind (arith, common_steps)

pub returns-then-words-ne1 : goal.returns-then-words-ne1
unfolding sense_tests
returns-then-words-ne1 c = grind (arith, common_steps)
