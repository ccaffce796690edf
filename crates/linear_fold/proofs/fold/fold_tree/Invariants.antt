use Rattle.std.proofs.Common.{◌≡◌, ◌≤◌, ◌+◌, ◌-◌, ◌*◌, length, reverse, drop}
use Rattle.nl_model.specs.Trees.{Known}
use Rattle.linear_program.specs.Lines.{Point}
use Rattle.nl_model.specs.Nodes.{trees_of}
use Rattle.linear_fold.specs.InsideFolds.{AreKnown, ArePartsFolded, ArePartsWithin}
use Rattle.linear_fold.specs.InsideOperates.{IsPad}
use Rattle.linear_fold.proofs.fold.fold_tree.Given as goal

abbrev pub invariant-loop-place : goal.invariant-loop-place
invariant-loop-place g l =
    record {
      folded : (known : Point → Known) → AreKnown l.variables known l.slots → ArePartsFolded known l.variables l.place (trees_of (drop l.place l.nodes)) (reverse l.stack.items);
      many : length (trees_of (drop l.place l.nodes)) ≡ length l.stack.items;
      within : ArePartsWithin l.variables (reverse l.stack.items);
      pad : IsPad l.variables l.room.pad;
      above : l.fn.steps ≤ l.steps;
      below : l.steps + 2 * (l.variables + 1) * length l.stack.items ≤ l.fn.steps + 2 * (l.variables + 1) * (length l.nodes - l.place);
    }
