use Rattle.std.proofs.Common.{arith}
use Rattle.std.proofs.lemmas.Grind.{common_steps}
use Rattle.exact_numbers.proofs.write.append_with_point.Goals as goal

pub append-requires-else-digits-places : goal.append-requires-else-digits-places
append-requires-else-digits-places c = grind (arith, common_steps)

pub append-requires-then-digits-places : goal.append-requires-then-digits-places
append-requires-then-digits-places c = grind (arith, common_steps)

pub append_zeros-requires : goal.append_zeros-requires
append_zeros-requires c = grind (arith, common_steps)

pub push-requires : goal.push-requires
push-requires c = grind (arith, common_steps)

pub push-requires-else-digits-places-2 : goal.push-requires-else-digits-places-2
push-requires-else-digits-places-2 c = grind (arith, common_steps)

pub returns-else-digits-places : goal.returns-else-digits-places
returns-else-digits-places c = grind (arith, common_steps)

pub returns-then-digits-places : goal.returns-then-digits-places
returns-then-digits-places c = grind (arith, common_steps)
