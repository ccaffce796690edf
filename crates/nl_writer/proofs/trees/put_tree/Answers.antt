use Rattle.std.proofs.Common.{◌++◌, ◌∙◌, ap, arith}
use Rattle.std.specs.List.{flat_map}
use Rattle.std.proofs.lemmas.List.{take_all}
use Rattle.text_base.specs.WordLines.{lines_text}
use Rattle.nl_writer.specs.Trees.{node_lines}
use Rattle.nl_writer.proofs.Writing.{node_lines-prefix}
use Rattle.nl_writer.proofs.trees.put_tree.Goals as goal

pub returns : goal.returns
returns c =
    let nodes = c.nodes-nodes.result.now in
    c.loop-node.invariant
    ∙ ap (λ ns. c.args.out.now.items ++ lines_text (flat_map node_lines ns)) (take_all c.loop-node.node-index nodes (omega arith))
    ∙ ap (λ ls. c.args.out.now.items ++ lines_text ls) (node_lines-prefix c.args.tree.now nodes c.nodes-nodes.ensures.prefix)
