use Rattle.std.proofs.Common.{arith}
use Rattle.std.proofs.lemmas.Grind.{common_steps}
use Rattle.exact_numbers.proofs.frac.Frac.write_to.Goals as goal

pub append-requires-then-self-ne1 : goal.append-requires-then-self-ne1
append-requires-then-self-ne1 c = grind (arith, common_steps)

pub returns-then-self-ne1 : goal.returns-then-self-ne1
returns-then-self-ne1 c = grind (arith, common_steps)
