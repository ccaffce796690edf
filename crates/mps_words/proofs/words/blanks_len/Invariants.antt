use Rattle.std.proofs.Common.{◌≡◌, ◌+◌, length, not}
use Rattle.std.specs.List.{position_or_len}
use Rattle.text_base.specs.Words.{is_blank}
use Rattle.mps_words.proofs.words.blanks_len.Given as goal

-- the first byte that is no blank is the first of what is left
abbrev pub invariant-bytes : goal.invariant-bytes
invariant-bytes l = record {
  place : position_or_len (λ b. not (is_blank b)) l.bytes ≡ l.passed + position_or_len (λ b. not (is_blank b)) l.rest;
  len : length l.bytes ≡ l.passed + length l.rest;
}

abbrev pub decreases-bytes : goal.decreases-bytes
decreases-bytes l = length l.rest
