use Rattle.std.proofs.Common.{◌≡◌, take}
use Rattle.linear_fold.proofs.program.bounds_of.Given as goal

abbrev pub invariant-loop-var : goal.invariant-loop-var
invariant-loop-var l = l.bounds.items ≡ take l.var l.file.bounds
