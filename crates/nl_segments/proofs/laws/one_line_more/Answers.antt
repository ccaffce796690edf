use Rattle.nl_segments.proofs.StandingLemmas.{standing-more}
use Rattle.nl_segments.proofs.laws.one_line_more.Goals as goal

pub returns : goal.returns
returns c = standing-more
