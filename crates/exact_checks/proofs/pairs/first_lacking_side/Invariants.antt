use Rattle.exact_checks.proofs.PartRows.{OnSides}
use Rattle.exact_checks.proofs.pairs.first_lacking_side.Given as goal

abbrev pub invariant-loop-pair : goal.invariant-loop-pair
invariant-loop-pair l = OnSides l.program l.planes l.fn.maximise l.pairs l.pair-index
