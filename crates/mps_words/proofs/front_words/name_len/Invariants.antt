use Rattle.std.proofs.Common.{◌≡◌, ◌≤◌, ◌-◌, length, take, true}
use Rattle.text_base.specs.Names.{has_name_bytes}
use Rattle.mps_words.proofs.front_words.name_len.Given as goal

-- the bytes so far may stand in a name
abbrev pub invariant-bytes : goal.invariant-bytes
invariant-bytes l = record {
  within : l.passed ≤ length l.bytes;
  each : has_name_bytes (take l.passed l.bytes) ≡ true;
}

abbrev pub decreases-bytes : goal.decreases-bytes
decreases-bytes l = length l.bytes - l.passed
