use Rattle.std.proofs.Common.{arith}
use Rattle.std.proofs.lemmas.Grind.{common_steps}
use Rattle.text_base.proofs.marks.Marks.begin.Goals as goal

pub returns-then-len-room-clause-marks : goal.returns-then-len-room-clause-marks
returns-then-len-room-clause-marks c = grind (arith, common_steps)

pub returns-then-len-room-clause-room : goal.returns-then-len-room-clause-room
returns-then-len-room-clause-room c = grind (arith, common_steps)

pub returns-then-len-room-clause-none : goal.returns-then-len-room-clause-none
returns-then-len-room-clause-none c = grind (arith, common_steps)

pub returns-clause-marks : goal.returns-clause-marks
returns-clause-marks c = grind (arith, common_steps)

pub returns-clause-room : goal.returns-clause-room
returns-clause-room c = grind (arith, common_steps)

pub returns-clause-none : goal.returns-clause-none
returns-clause-none c = grind (arith, common_steps)
