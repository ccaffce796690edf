use Rattle.exact_numbers.specs.Values.{text_of}
use Rattle.sol_files.proofs.WriteLemmas.{mapped_step}
use Rattle.sol_files.proofs.write.put_decs.Goals as goal

pub loop-value-preserved : goal.loop-value-preserved
loop-value-preserved c = mapped_step text_of _ _ _ c.args.values.now c.loop-value.value-index c.value-item.result _
    c.loop-value-test.true c.value-item.is c.loop-value.invariant c.in_ok-put_value.ensures
