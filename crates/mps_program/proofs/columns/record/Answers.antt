use Rattle.mps_program.proofs.LoopLemmas.{record_kept}
use Rattle.mps_program.proofs.columns.record.Goals as goal

pub returns-clause-sets : goal.returns-clause-sets
returns-clause-sets c = record_kept c.index.result.now c.with_record-set.result c.args.bound.0 c.args.bound.2
    c.with_record-set.ensures.sides c.with_record-set.ensures.whole c.args.columns.now.items c.args.bound.1 c.requires
    c.index.ensures
