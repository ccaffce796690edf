use Rattle.std.proofs.Common.{◌++◌, append_assoc, codes, rules}
use Rattle.nl_lines.specs.Reasons.{nl_reason_text, opcode_text}
use Rattle.command_core.proofs.RefusalLines.{at_begins, line_so}
use Rattle.command_parts.proofs.nl_told.nl_refusal.Goals as goal

pub invariant_of-result : goal.invariant_of-result
invariant_of-result c =
    record { refuses = line_so _ (nl_reason_text c.args.fault.reason ++ opcode_text c.args.fault.reason) _ (at_begins 1 (codes "line") c.args.fault.line) (search (rules, append_assoc)) }
