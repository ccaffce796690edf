use Rattle.exact_numbers.specs.Values.{dec_value}
use Rattle.exact_numbers.proofs.WholeLemmas.{whole_by}
use Rattle.sol_files.proofs.suffix_rows.is_whole.Goals as goal

pub returns : goal.returns
returns c = whole_by (dec_value c.args.value) _ c.is_whole.ensures
