use Rattle.std.proofs.Common.{◌≤◌, ◌+◌, ◌-◌, ◌^◌, ℕ, length, All}
use Rattle.nl_lines.specs.NodeRows.{IsNodeKnown}
use Rattle.nl_segments.specs.Current.{Current}
use Rattle.nl_segments.specs.Held.{Body}
use Rattle.nl_segments.specs.InsideNodeRuns.{AwaitsNodes, with_nodes}
use Rattle.nl_segments.specs.InsideTermRuns.{TakesLines}
use Rattle.nl_segments.proofs.body_leaves.give_nodes.Given as goal

-- the lines so far were taken
abbrev pub invariant-lines : goal.invariant-lines
invariant-lines l = record {
  few : l.front.lines ≤ 2 ^ 22 - l.before;
  known : All (IsNodeKnown l.builder.counts.n_var l.builder.definitions) l.nodes;
  within : l.front.len ≤ length l.piece;
  takes : (b : Body) (cur : Current) (number : ℕ) → AwaitsNodes l.builder l.fn.nodes l.before b cur → TakesLines b l.piece number l.front (with_nodes b cur l.nodes number l.front.lines);
}

abbrev pub decreases-lines : goal.decreases-lines
decreases-lines l = 2 ^ 22 - (l.before + l.front.lines)
