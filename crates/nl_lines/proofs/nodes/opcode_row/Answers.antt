use Rattle.nl_lines.proofs.OpcodeLemmas.{one_fits, two_fit}
use Rattle.nl_lines.proofs.nodes.opcode_row.Goals as goal

pub returns-in-One-clause-formed : goal.returns-in-One-clause-formed
returns-in-One-clause-formed c = one_fits _ _ c.requires c.in-One.is

pub returns-in-Two-clause-formed : goal.returns-in-Two-clause-formed
returns-in-Two-clause-formed c = two_fit _ _ c.requires c.in-Two.is
