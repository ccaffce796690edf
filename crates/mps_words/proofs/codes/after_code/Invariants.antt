use Rattle.std.proofs.Common.{◌≡◌, ◌≤◌, ◌<◌, ◌-◌, ◌^◌, length, take}
use Rattle.mps_words.specs.InsideCodes.{bytes_code}
use Rattle.mps_words.proofs.codes.after_code.Given as goal

-- the code of the bytes so far
abbrev pub invariant-bytes : goal.invariant-bytes
invariant-bytes l = record {
  within : l.passed ≤ length l.text;
  few : l.passed ≤ 16;
  found : l.found ≡ bytes_code (take l.passed l.text);
  small : l.found < 256 ^ l.passed;
}

abbrev pub decreases-bytes : goal.decreases-bytes
decreases-bytes l = 16 - l.passed
