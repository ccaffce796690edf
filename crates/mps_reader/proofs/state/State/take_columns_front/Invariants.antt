use Rattle.std.proofs.Common.{◌≡◌, ◌≤◌, ◌-◌, length}
use Rattle.mps_reader.specs.InsideHeld.{IsSound}
use Rattle.mps_reader.specs.InsideLines.{TakesLines}
use Rattle.mps_reader.proofs.state.State.take_columns_front.Given as goal

-- the lines so far were taken
abbrev pub invariant-columns : goal.invariant-columns
invariant-columns l = record {
  within : l.front.len ≤ length l.text;
  few : l.front.lines ≤ l.front.len;
  takes : TakesLines l.fn.self l.text l.front l.self;
  sound : IsSound l.self;
  begun : l.self.standing.begun ≡ l.fn.self.standing.begun;
}

abbrev pub decreases-columns : goal.decreases-columns
decreases-columns l = length l.text - l.front.len
