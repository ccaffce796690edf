use Rattle.std.proofs.Common.{arith}
use Rattle.std.proofs.lemmas.Grind.{common_steps}
use Rattle.exact_numbers.proofs.read.read_whole.Goals as goal

pub returns : goal.returns
returns c = grind (arith, common_steps)

pub returns-then-front-gt2147483647 : goal.returns-then-front-gt2147483647
returns-then-front-gt2147483647 c = grind (arith, common_steps)
