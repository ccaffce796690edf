use Rattle.exact_checks.proofs.PartRows.{OnTaken}
use Rattle.exact_checks.proofs.pairs.take_rows.Given as goal

abbrev pub invariant-loop-pair : goal.invariant-loop-pair
invariant-loop-pair l = OnTaken l.program l.planes l.pairs l.fn.costs l.costs l.pair-index
