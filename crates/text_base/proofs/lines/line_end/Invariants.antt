use Rattle.std.proofs.Common.{◌≡◌, ◌+◌, ◌==◌, length}
use Rattle.std.specs.List.{position_or_len}
use Rattle.text_base.proofs.lines.line_end.Given as goal

-- the first line end is the first of what is left
abbrev pub invariant-fours : goal.invariant-fours
invariant-fours l = record {
  place : position_or_len (λ b. b == 10) l.piece ≡ l.passed + position_or_len (λ b. b == 10) l.rest;
  len : length l.piece ≡ l.passed + length l.rest;
}

abbrev pub decreases-fours : goal.decreases-fours
decreases-fours l = length l.rest
