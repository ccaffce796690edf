use Rattle.mps_program.proofs.LoopLemmas.{number_kept}
use Rattle.mps_program.proofs.by_place.give.Goals as goal

pub returns-clause-value : goal.returns-clause-value
returns-clause-value c = number_kept c.args.all.now.items c.args.entry.0 c.args.entry.1 c.index.result.now c.first_given-number.result c.requires c.index.ensures c.first_given-number.ensures
