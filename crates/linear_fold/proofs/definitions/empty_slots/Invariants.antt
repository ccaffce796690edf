use Rattle.std.proofs.Common.{◌≡◌, None, replicate}
use Rattle.linear_fold.proofs.definitions.empty_slots.Given as goal

abbrev pub invariant-filled : goal.invariant-filled
invariant-filled l = l.all.items ≡ replicate l.counter None
