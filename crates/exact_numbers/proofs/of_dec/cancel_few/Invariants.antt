use Rattle.std.proofs.Common.{◌≡◌, ◌*◌, ◌^◌, ◌-◌, ◌≤◌}
use Rattle.exact_numbers.proofs.of_dec.cancel_few.Given as goal

abbrev pub invariant-loop-left : goal.invariant-loop-left
invariant-loop-left l = record { within : l.left ≤ l.times; whole : l.n ≡ l.rest * l.factor ^ (l.times - l.left) }

abbrev pub decreases-loop-left : goal.decreases-loop-left
decreases-loop-left l = l.left
