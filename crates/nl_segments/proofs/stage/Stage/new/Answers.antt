use Rattle.nl_segments.proofs.StandingLemmas.{holds_start}
use Rattle.nl_segments.proofs.stage.Stage.new.Goals as goal

pub returns : goal.returns
returns c = holds_start c.new.result c.new.ensures
