use Rattle.std.proofs.Common.{◌≡◌, false, replicate}
use Rattle.nl_model.proofs.places.marks.Given as goal

abbrev pub invariant-filled : goal.invariant-filled
invariant-filled l = l.all.items ≡ replicate l.counter false
