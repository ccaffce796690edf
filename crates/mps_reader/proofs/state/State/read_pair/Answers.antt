use Rattle.std.proofs.Common.{arith}
use Rattle.std.proofs.lemmas.Grind.{common_steps}
use Rattle.mps_reader.specs.Tests.{pair_tests}
use Rattle.mps_reader.specs.Saying.{entry_in}
use Rattle.mps_reader.proofs.state.State.read_pair.Goals as goal

pub is_marked-requires : goal.is_marked-requires
unfolding pair_tests entry_in
is_marked-requires c = grind (arith, common_steps)

pub is_refused_row-requires-clause-within : goal.is_refused_row-requires-clause-within
unfolding pair_tests entry_in
is_refused_row-requires-clause-within c = grind (arith, common_steps)

pub returns-clause-can : goal.returns-clause-can
unfolding pair_tests entry_in
returns-clause-can c = grind (arith, common_steps)

pub returns-clause-fine : goal.returns-clause-fine
unfolding pair_tests entry_in
returns-clause-fine c = grind (arith, common_steps)

pub returns-then-is_full-clause-fault : goal.returns-then-is_full-clause-fault
unfolding pair_tests entry_in
returns-then-is_full-clause-fault c = grind (arith, common_steps)

pub returns-then-is_marked-clause-fault : goal.returns-then-is_marked-clause-fault
unfolding pair_tests entry_in
returns-then-is_marked-clause-fault c = grind (arith, common_steps)
