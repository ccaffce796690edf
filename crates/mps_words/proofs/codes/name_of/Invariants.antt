use Rattle.std.proofs.Common.{◌≡◌, ◌≤◌, ◌++◌, length, drop}
use Rattle.mps_words.specs.InsideCodes.{last_bytes}
use Rattle.mps_words.proofs.codes.name_of.Given as goal

-- the bytes that are left stand before those that are written
abbrev pub invariant-bytes : goal.invariant-bytes
invariant-bytes l = record {
  within : l.place ≤ 16;
  size : length l.bytes ≡ 16;
  same : last_bytes l.place l.left ++ drop l.place l.bytes ≡ last_bytes 16 l.code;
}

abbrev pub decreases-bytes : goal.decreases-bytes
decreases-bytes l = l.place
