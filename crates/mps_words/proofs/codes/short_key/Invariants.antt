use Rattle.std.proofs.Common.{◌≡◌, ◌<◌, ◌^◌, take}
use Rattle.mps_words.specs.InsideCodes.{bytes_code}
use Rattle.mps_words.proofs.codes.short_key.Given as goal

-- the code of the bytes so far
abbrev pub invariant-bytes : goal.invariant-bytes
invariant-bytes l = record {
  code : l.code ≡ bytes_code (take l.byte-index l.name);
  small : l.code < 256 ^ l.byte-index;
}
