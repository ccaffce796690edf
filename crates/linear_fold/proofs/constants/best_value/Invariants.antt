use Rattle.std.proofs.Common.{reverse, take}
use Rattle.exact_numbers.specs.Values.{frac_value}
use Rattle.linear_fold.proofs.ConstantLemmas.{Choosing}
use Rattle.linear_fold.proofs.constants.best_value.Given as goal

abbrev pub invariant-loop-place : goal.invariant-loop-place
invariant-loop-place l = Choosing l.least (frac_value l.initial.best) (frac_value l.best) (reverse (take l.place l.operands)) (reverse l.operands)
