use Rattle.std.proofs.Common.{◌≡◌, [], replicate}
use Rattle.nl_model.proofs.places.lists.Given as goal

abbrev pub invariant-filled : goal.invariant-filled
invariant-filled l = l.all.items ≡ replicate l.counter []
