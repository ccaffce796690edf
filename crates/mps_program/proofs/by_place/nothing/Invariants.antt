use Rattle.std.proofs.Common.{◌≡◌, None, replicate}
use Rattle.mps_program.proofs.by_place.nothing.Given as goal

abbrev pub invariant-filled : goal.invariant-filled
invariant-filled l = l.all.items ≡ replicate l.counter None
