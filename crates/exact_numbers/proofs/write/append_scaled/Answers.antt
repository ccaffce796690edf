use Rattle.std.proofs.Common.{arith}
use Rattle.std.proofs.lemmas.Grind.{common_steps}
use Rattle.exact_numbers.proofs.write.append_scaled.Goals as goal

pub append-requires-else-e-lt0-2 : goal.append-requires-else-e-lt0-2
append-requires-else-e-lt0-2 c = grind (arith, common_steps)

pub append_zeros-requires : goal.append_zeros-requires
append_zeros-requires c = grind (arith, common_steps)

pub push-requires : goal.push-requires
push-requires c = grind (arith, common_steps)

pub returns-else-e-lt0 : goal.returns-else-e-lt0
returns-else-e-lt0 c = grind (arith, common_steps)

pub returns-then-e-le20 : goal.returns-then-e-le20
returns-then-e-le20 c = grind (arith, common_steps)
