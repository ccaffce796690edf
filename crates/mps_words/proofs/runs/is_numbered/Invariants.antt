use Rattle.std.proofs.Common.{◌≡◌, ◌==◌}
use Rattle.mps_words.specs.InsideRuns.{numbered}
use Rattle.mps_words.proofs.runs.is_numbered.Given as goal

-- the code is that of the prefix and the number where what is left of it is that of what is left
abbrev pub invariant-digits : goal.invariant-digits
invariant-digits l = record {
  same : (l.front == numbered l.prefix l.left) ≡ (l.code == numbered l.prefix l.number);
}

abbrev pub decreases-digits : goal.decreases-digits
decreases-digits l = l.left
