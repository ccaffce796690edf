use Rattle.nl_header.proofs.HeadLemmas.{number_in-past}
use Rattle.nl_header.proofs.number_line.number_in.Goals as goal

pub returns-in_default : goal.returns-in_default
returns-in_default c = number_in-past c.args.words.now _ c.args.place c.saturating_sub.ensures c.in_default.ensures.lookup.3
