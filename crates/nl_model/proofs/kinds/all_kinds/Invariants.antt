use Rattle.std.proofs.Common.{◌≡◌, ◌-◌, ◌≤◌, ◌++◌, drop, length}
use Rattle.nl_model.proofs.KindRuns.{kinds_left}
use Rattle.nl_model.proofs.kinds.all_kinds.Given as goal

abbrev pub invariant-runs : goal.invariant-runs
invariant-runs l = (length l.kinds.items ≤ l.count) × (l.kinds.items ++ kinds_left (drop l.i l.runs) (l.count - length l.kinds.items) ≡ kinds_left l.runs l.count)
