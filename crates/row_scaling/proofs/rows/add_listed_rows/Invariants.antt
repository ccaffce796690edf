use Rattle.row_scaling.proofs.AddLemmas.{AreRowsLeft}
use Rattle.row_scaling.proofs.rows.add_listed_rows.Given as goal

abbrev pub invariant-loop-i : goal.invariant-loop-i
invariant-loop-i l = AreRowsLeft l.fn.n l.rows l.initial.builder l.builder l.i
