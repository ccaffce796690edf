use Rattle.std.proofs.Common.{◌≡◌, take}
use Rattle.linear_fold.proofs.program.sides_of.Given as goal

abbrev pub invariant-loop-con : goal.invariant-loop-con
invariant-loop-con l = l.sides.items ≡ take l.con l.file.sides
