use Rattle.std.proofs.Common.{◌≡◌, drop}
use Rattle.nl_segments.specs.InsideEnding.{are_sums}
use Rattle.nl_segments.proofs.ending.are_sums.Given as goal

abbrev pub invariant-columns : goal.invariant-columns
invariant-columns l = are_sums l.uses l.j l.before (drop l.j l.columns) ≡ are_sums l.uses 0 0 l.columns
