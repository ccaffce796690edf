use Rattle.std.proofs.Common.{◌≡◌, ◌≤◌, ◌-◌, ◌&&◌, nat_le, nat_lt, ℕ, length}
use Rattle.nl_model.specs.Kinds.{variable_kind}
use Rattle.nl_lines.specs.Tests.{is_binary}
use Rattle.nl_segments.specs.Current.{Current}
use Rattle.nl_segments.specs.Held.{Body}
use Rattle.nl_segments.specs.InsideLineFronts.{AwaitsIntervals, with_lines}
use Rattle.nl_segments.specs.InsideTermRuns.{TakesLines}
use Rattle.nl_segments.proofs.body_intervals.give_intervals.Given as goal

-- the lines so far were taken
abbrev pub invariant-lines : goal.invariant-lines
invariant-lines l = record {
  counts : l.builder.counts ≡ l.fn.builder.counts;
  limit : l.n_var ≡ l.fn.builder.counts.n_var;
  binary : (j : ℕ) → is_binary (variable_kind l.fn.builder.counts j) ≡ (nat_le l.binaries.first j && nat_lt j l.binaries.end);
  few : l.front.lines ≤ l.left;
  within : l.front.len ≤ length l.piece;
  takes : (b : Body) (cur : Current) (number : ℕ) → AwaitsIntervals l.fn.builder l.of_constraint l.left b cur
      → TakesLines b l.piece number l.front (with_lines b l.builder b.columns cur l.front.lines);
}

abbrev pub decreases-lines : goal.decreases-lines
decreases-lines l = l.left - l.front.lines
