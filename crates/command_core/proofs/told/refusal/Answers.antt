use Rattle.std.proofs.Common.{rules}
use Rattle.command_core.proofs.RefusalLines.{at_begins, line_so}
use Rattle.command_core.proofs.told.refusal.Goals as goal

pub invariant_of-result : goal.invariant_of-result
invariant_of-result c = record { refuses = line_so _ c.args.text.now c.put_refused_at.new.line (at_begins c.args.file c.args.what.now c.args.number) (search rules) }
