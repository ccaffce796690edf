use Rattle.std.proofs.Common.{◌≡◌, true, length}
use Rattle.mps_reader.proofs.FrontEntries.{HasTaken}
use Rattle.mps_reader.proofs.state.State.take_entries.Given as goal

-- the lines so far were taken, and the column may go on
abbrev pub invariant-entries : goal.invariant-entries
invariant-entries l = record {
  taken : HasTaken l.fn.self l.text l.rest l.lines l.self;
  begun : l.self.standing.begun ≡ l.fn.self.standing.begun;
  current : l.self.standing.draft.current ≡ true;
}

abbrev pub decreases-entries : goal.decreases-entries
decreases-entries l = length l.rest
