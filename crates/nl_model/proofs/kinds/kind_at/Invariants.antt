use Rattle.std.proofs.Common.{◌≡◌, drop}
use Rattle.nl_model.specs.InsideKinds.{kind_among}
use Rattle.nl_model.proofs.kinds.kind_at.Given as goal

abbrev pub invariant-runs : goal.invariant-runs
invariant-runs l = kind_among (drop l.i l.runs) l.left ≡ kind_among l.runs l.place
