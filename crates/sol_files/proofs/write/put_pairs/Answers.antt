use Rattle.sol_files.specs.Written.{value_line}
use Rattle.sol_files.proofs.WriteLemmas.{mapped_step}
use Rattle.sol_files.proofs.write.put_pairs.Goals as goal

pub loop-pair-preserved : goal.loop-pair-preserved
loop-pair-preserved c = mapped_step value_line _ _ _ c.args.values.now c.loop-pair.pair-index c.pair-item.result _ c.loop-pair-test.true c.pair-item.is c.loop-pair.invariant c.in_ok-put_pair.ensures
