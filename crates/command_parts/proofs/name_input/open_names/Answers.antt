use Rattle.std.proofs.Common.{◌∙◌, sym}
use Rattle.command_parts.proofs.name_input.open_names.Goals as goal

pub returns-clause-reads : goal.returns-clause-reads
returns-clause-reads g c = λ counts same. c.open.ensures.reads_so counts (c.new.ensures.counts ∙ sym same)
