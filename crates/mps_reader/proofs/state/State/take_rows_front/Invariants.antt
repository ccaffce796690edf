use Rattle.std.proofs.Common.{◌≡◌, length}
use Rattle.mps_reader.proofs.FrontEntries.{HasTaken}
use Rattle.mps_reader.proofs.state.State.take_rows_front.Given as goal

-- the lines so far were taken
abbrev pub invariant-rows : goal.invariant-rows
invariant-rows l = record {
  taken : HasTaken l.fn.self l.text l.rest l.lines l.self;
  begun : l.self.standing.begun ≡ l.fn.self.standing.begun;
}

abbrev pub decreases-rows : goal.decreases-rows
decreases-rows l = length l.rest
