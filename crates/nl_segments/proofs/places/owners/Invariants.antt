use Rattle.std.proofs.Common.{◌≡◌, replicate}
use Rattle.nl_lines.specs.Saying.{no_lines}
use Rattle.nl_segments.proofs.places.owners.Given as goal

abbrev pub invariant-filled : goal.invariant-filled
invariant-filled l = l.all.items ≡ replicate l.counter no_lines
