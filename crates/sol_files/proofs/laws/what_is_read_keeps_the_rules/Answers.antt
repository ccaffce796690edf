use Rattle.sol_files.proofs.KeptTexts.{read_keeps}
use Rattle.sol_files.proofs.laws.what_is_read_keeps_the_rules.Goals as goal

pub returns : goal.returns
returns c = read_keeps
