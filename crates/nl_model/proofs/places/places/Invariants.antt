use Rattle.std.proofs.Common.{◌≡◌, None, replicate}
use Rattle.nl_model.proofs.places.places.Given as goal

abbrev pub invariant-filled : goal.invariant-filled
invariant-filled g l = l.all.items ≡ replicate l.counter None
