use Rattle.sol_files.proofs.StandingLemmas.{standing-read, read-more}
use Rattle.sol_files.proofs.laws.one_line_more.Goals as goal

pub returns-clause-step : goal.returns-clause-step
returns-clause-step c = read-more

pub returns-clause-meaning : goal.returns-clause-meaning
returns-clause-meaning c = standing-read
