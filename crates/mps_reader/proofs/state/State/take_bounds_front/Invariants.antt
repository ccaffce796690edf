use Rattle.std.proofs.Common.{◌≡◌, length}
use Rattle.mps_reader.proofs.FrontEntries.{HasTaken}
use Rattle.mps_reader.proofs.state.State.take_bounds_front.Given as goal

-- the lines so far were taken
abbrev pub invariant-bounds : goal.invariant-bounds
invariant-bounds l = record {
  taken : HasTaken l.fn.self l.text l.rest l.lines l.self;
  begun : l.self.standing.begun ≡ l.fn.self.standing.begun;
}

abbrev pub decreases-bounds : goal.decreases-bounds
decreases-bounds l = length l.rest
