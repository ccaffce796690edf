use Rattle.std.proofs.Common.{◌≤◌, ◌+◌, ◌-◌, drop, length}
use Rattle.linear_program.specs.Lines.{Line, Point}
use Rattle.nl_model.specs.Trees.{Known, first_trees}
use Rattle.nl_model.specs.Nodes.{trees_of}
use Rattle.linear_fold.specs.InsideLeafSums.{AreLeaves, SumsUpTo, leaves_line, seen}
use Rattle.linear_fold.specs.InsideOperates.{zero_line}
use Rattle.linear_fold.proofs.leaf_sums.add_leaves.Given as goal

abbrev pub invariant-loop : goal.invariant-loop
invariant-loop g l =
    record {
      within : l.place ≤ length l.nodes;
      leaves : AreLeaves l.variables l.sum;
      leads : (known : Point → Known) (line : Line) → SumsUpTo known l.variables l.place
          (first_trees (l.count - l.counter) (trees_of (drop l.place l.nodes))) (leaves_line l.sum) line
          → SumsUpTo known l.variables 1 (first_trees l.count (trees_of (drop 1 l.nodes))) zero_line line;
      above : l.fn.steps ≤ l.steps;
      below : l.steps ≤ l.fn.steps + seen l.sum;
    }
