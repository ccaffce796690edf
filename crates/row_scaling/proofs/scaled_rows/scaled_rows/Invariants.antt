use Rattle.row_scaling.proofs.LinearLemmas.{AreFirstRows}
use Rattle.row_scaling.proofs.scaled_rows.scaled_rows.Given as goal

abbrev pub invariant-loop-con : goal.invariant-loop-con
invariant-loop-con l = AreFirstRows l.linear l.rows.items l.con
