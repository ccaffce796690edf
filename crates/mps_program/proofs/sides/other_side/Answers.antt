use Rattle.mps_program.proofs.ReachLemmas.{reached}
use Rattle.mps_program.proofs.sides.other_side.Goals as goal

pub returns : goal.returns
returns c = reached c.to_dec.result c.args.kind _ _ _ _ _ _ c.in-Some.ensures c.in-Some-of_dec.ensures c.range_step-step.ensures c.in-Some-add.ensures c.to_dec.ensures
