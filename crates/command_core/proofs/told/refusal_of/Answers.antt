use Rattle.std.proofs.Common.{◌++◌, append_assoc, codes, refl, rules}
use Rattle.command_core.proofs.RefusalLines.{line_so, more}
use Rattle.command_core.proofs.told.refusal_of.Goals as goal

pub invariant_of-result : goal.invariant_of-result
invariant_of-result c =
    record { refuses = line_so (codes "refused " ++ c.args.what.now ++ codes ": ") c.args.text.now _ (more _ (codes ": ") (c.args.what.now, refl)) (search (rules, append_assoc)) }
