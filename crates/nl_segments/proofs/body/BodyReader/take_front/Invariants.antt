use Rattle.std.proofs.Common.{◌≤◌, ◌-◌, length}
use Rattle.nl_segments.specs.Held.{body_of}
use Rattle.nl_segments.specs.InsideTermRuns.{TakesLines}
use Rattle.nl_segments.proofs.body.BodyReader.take_front.Given as goal

-- the lines so far were taken
abbrev pub invariant-runs : goal.invariant-runs
invariant-runs l = record {
  within : l.front.len ≤ length l.piece;
  few : l.front.lines ≤ l.front.len;
  takes : TakesLines (body_of l.fn.self) l.piece l.number l.front (body_of l.self);
}

abbrev pub decreases-runs : goal.decreases-runs
decreases-runs l = length l.piece - l.front.len
