use Rattle.std.proofs.Common.{◌∙◌, ◌^◌, [], ◌∷◌, nat_le}
use Rattle.nl_lines.specs.declared.fault.NlReason.TheVariants.{TooLarge}
use Rattle.nl_lines.specs.Tests.{node_form_tests}
use Rattle.nl_lines.proofs.NodeLemmas.{not_large}
use Rattle.text_base.proofs.FirstReasons.{reason_before, reason_after}
use Rattle.nl_segments.proofs.body_leaves.read_next.Goals as goal

pub returns-in-Err : goal.returns-in-Err
returns-in-Err c = λ words p. reason_before (node_form_tests c.args.builder.now.counts c.args.builder.now words)
    ((nat_le (2 ^ 22) c.args.nodes, TooLarge) ∷ []) c.in-Err.reason (c.in-Err.ensures words p)

pub returns : goal.returns
returns c = λ words p. (
  reason_after (node_form_tests c.args.builder.now.counts c.args.builder.now words) ((nat_le (2 ^ 22) c.args.nodes, TooLarge) ∷ []) (c.in-Ok.ensures words p).0
      ∙ not_large c.args.nodes c.if-nodes-ge-MOST_NODES.false,
  record { read = (c.in-Ok.ensures words p).1; few = c.if-nodes-ge-MOST_NODES.false },
)
