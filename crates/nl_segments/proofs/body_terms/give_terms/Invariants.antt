use Rattle.std.proofs.Common.{◌≡◌, ◌≤◌, ◌-◌, ℕ, length}
use Rattle.nl_segments.specs.Current.{Current}
use Rattle.nl_segments.specs.Held.{Body}
use Rattle.nl_segments.specs.InsideTermRuns.{IsBodyOf, TakesLines, with_counted, with_parts}
use Rattle.nl_segments.proofs.body_terms.give_terms.Given as goal

-- the lines so far were taken
abbrev pub invariant-lines : goal.invariant-lines
invariant-lines l = record {
  limit : l.limit ≡ l.builder.counts.n_var;
  few : l.front.lines ≤ l.most;
  within : l.front.len ≤ length l.piece;
  takes : (b : Body) (cur : Current) (number : ℕ) → IsBodyOf l.fn.builder l.fn.uses.items l.head l.most b cur
      → TakesLines b l.piece number l.front (with_counted (with_parts b l.builder l.uses.items) cur number l.front.lines);
}

abbrev pub decreases-lines : goal.decreases-lines
decreases-lines l = l.most - l.front.lines
