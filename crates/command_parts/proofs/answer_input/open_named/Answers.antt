use Rattle.std.proofs.Common.{◌∙◌}
use Rattle.answer_file.specs.Names.{named_setting}
use Rattle.command_parts.proofs.answer_input.open_named.Goals as goal

pub returns-clause-reads : goal.returns-clause-reads
returns-clause-reads g c = c.open.ensures.reads_so (named_setting c.args.file.now c.args.rows c.args.columns) (c.in_ok-grammar.ensures.setting ∙ c.in_ok-scope.ensures)
