use Rattle.std.proofs.Common.{◌∙◌}
use Rattle.answer_file.specs.Names.{setting_of}
use Rattle.command_parts.proofs.answer_input.open_answer.Goals as goal

pub returns-clause-reads : goal.returns-clause-reads
returns-clause-reads g c = c.open.ensures.reads_so (setting_of c.args.file.now) (c.in_ok-grammar.ensures.setting ∙ c.in_ok-scope.ensures)
