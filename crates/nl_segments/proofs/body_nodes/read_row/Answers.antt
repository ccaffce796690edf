use Rattle.std.proofs.Common.{◌^◌, [], ◌∷◌, nat_le}
use Rattle.text_base.specs.Words.{texts}
use Rattle.nl_lines.specs.declared.fault.NlReason.TheVariants.{TooLarge}
use Rattle.nl_lines.specs.Tests.{node_form_tests}
use Rattle.text_base.proofs.FirstReasons.{reason_before}
use Rattle.nl_segments.proofs.body_nodes.read_row.Goals as goal

pub returns-in-Err : goal.returns-in-Err
returns-in-Err c = reason_before (node_form_tests c.args.builder.now.counts c.args.builder.now (texts c.args.words.now))
    ((nat_le (2 ^ 22) c.args.nodes, TooLarge) ∷ []) c.in-Err.reason c.in-Err.ensures
