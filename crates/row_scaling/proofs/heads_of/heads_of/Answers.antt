use Rattle.std.proofs.Common.{◌∙◌, ap, length}
use Rattle.linear_program.specs.Names.{row_name}
use Rattle.row_scaling.proofs.LineLemmas.{numbers_named}
use Rattle.row_scaling.proofs.heads_of.heads_of.Goals as goal

pub returns : goal.returns
returns c = record {
  scaled = c.rows.ensures.scaled;
  numbers = numbers_named c.args.scaled.now c.rows.result.now c.in_ok-numbers.numbers.items c.rows.ensures.value (c.in_ok-numbers.ensures row_name);
  kinds = c.in_ok-kinds.ensures.items ∙ c.program_kinds.ensures.value;
  count = ap length c.in_ok-kinds.ensures.items ∙ c.program_kinds.ensures.count;
  variables = c.variables.ensures.value;
}
