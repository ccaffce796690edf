use Rattle.std.proofs.Common.{◌≡◌, take}
use Rattle.row_scaling.proofs.tied.copied.Given as goal

abbrev pub invariant-loop-term : goal.invariant-loop-term
invariant-loop-term l = l.new ≡ take l.term-index l.terms
