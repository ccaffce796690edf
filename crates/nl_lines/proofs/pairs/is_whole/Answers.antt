use Rattle.exact_numbers.specs.Values.{dec_value}
use Rattle.exact_numbers.proofs.WholeLemmas.{whole_by}
use Rattle.nl_lines.proofs.pairs.is_whole.Goals as goal

pub returns : goal.returns
returns c = whole_by (dec_value c.args.value) _ c.is_whole.ensures
