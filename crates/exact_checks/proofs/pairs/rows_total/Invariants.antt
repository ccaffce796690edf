use Rattle.exact_numbers.specs.Values.{frac_value}
use Rattle.exact_checks.proofs.PartRows.{OnTotal}
use Rattle.exact_checks.proofs.pairs.rows_total.Given as goal

abbrev pub invariant-loop-pair : goal.invariant-loop-pair
invariant-loop-pair l = OnTotal l.program l.planes l.fn.maximise (frac_value l.fn.constant) l.pairs l.pair-index (frac_value l.sum)
