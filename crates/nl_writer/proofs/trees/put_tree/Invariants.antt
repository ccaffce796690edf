use Rattle.std.proofs.Common.{◌≡◌, ◌++◌, take}
use Rattle.std.specs.List.{flat_map}
use Rattle.text_base.specs.WordLines.{lines_text}
use Rattle.nl_writer.specs.Trees.{node_lines}
use Rattle.nl_writer.proofs.trees.put_tree.Given as goal

abbrev pub invariant-loop-node : goal.invariant-loop-node
invariant-loop-node l = l.out.items ≡ l.initial.out.items ++ lines_text (flat_map node_lines (take l.node-index l.nodes))
