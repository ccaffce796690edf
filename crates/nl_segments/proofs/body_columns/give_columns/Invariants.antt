use Rattle.std.proofs.Common.{◌≤◌, ◌-◌, ℕ, length}
use Rattle.nl_segments.specs.Current.{Current}
use Rattle.nl_segments.specs.Held.{Body}
use Rattle.nl_segments.specs.InsideLineFronts.{AwaitsColumns, with_lines}
use Rattle.nl_segments.specs.InsideTermRuns.{TakesLines}
use Rattle.nl_segments.proofs.body_columns.give_columns.Given as goal

-- the lines so far were taken
abbrev pub invariant-lines : goal.invariant-lines
invariant-lines l = record {
  few : l.front.lines ≤ l.left;
  within : l.front.len ≤ length l.piece;
  takes : (b : Body) (cur : Current) (number : ℕ) → AwaitsColumns l.fn.columns.items l.left b cur → TakesLines b l.piece number l.front (with_lines b b.draft l.columns.items cur l.front.lines);
}

abbrev pub decreases-lines : goal.decreases-lines
decreases-lines l = l.left - l.front.lines
