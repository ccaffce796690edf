use Rattle.std.proofs.Common.{◌≡◌, ◌≤◌, length, drop, take, true}
use Rattle.text_base.specs.Names.{has_name_bytes}
use Rattle.mps_words.proofs.front_words.groups_len.Given as goal

-- the groups so far may stand in a name
abbrev pub invariant-groups : goal.invariant-groups
invariant-groups l = record {
  within : l.passed ≤ length l.bytes;
  left : l.rest ≡ drop l.passed l.bytes;
  each : has_name_bytes (take l.passed l.bytes) ≡ true;
}

abbrev pub decreases-groups : goal.decreases-groups
decreases-groups l = length l.rest
