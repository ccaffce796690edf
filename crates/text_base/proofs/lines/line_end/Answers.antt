use Rattle.std.proofs.Common.{arith}
use Rattle.std.proofs.lemmas.Grind.{common_steps}
use Rattle.text_base.proofs.lines.line_end.Goals as goal

pub fours-preserved : goal.fours-preserved
fours-preserved c = grind (arith, common_steps)
