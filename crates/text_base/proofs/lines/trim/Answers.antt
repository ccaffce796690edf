use Rattle.std.proofs.Common.{arith}
use Rattle.std.proofs.lemmas.Grind.{common_steps}
use Rattle.text_base.proofs.lines.trim.Goals as goal

pub cutting-init : goal.cutting-init
cutting-init c = grind (arith, common_steps)

pub cutting-preserved : goal.cutting-preserved
cutting-preserved c = grind (arith, common_steps)

pub returns : goal.returns
returns c = grind (arith, common_steps)
