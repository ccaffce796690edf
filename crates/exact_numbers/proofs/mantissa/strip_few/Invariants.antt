use Rattle.std.proofs.Common.{◌≡◌, ◌*◌, ◌<◌, ◌^◌}
use Rattle.exact_numbers.proofs.mantissa.strip_few.Given as goal

abbrev pub invariant-loop-rest : goal.invariant-loop-rest
invariant-loop-rest l = record {
  above : 0 < l.rest;
  whole : l.n ≡ l.rest * 10 ^ l.zeros;
  few : l.zeros < 39;
}

abbrev pub decreases-loop-rest : goal.decreases-loop-rest
decreases-loop-rest l = l.rest
