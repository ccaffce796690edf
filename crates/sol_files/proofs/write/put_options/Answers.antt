use Rattle.std.proofs.Common.{pos, rules}
use Rattle.std.specs.Fmt.{signed_decimal}
use Rattle.sol_files.proofs.WriteLemmas.{mapped_step}
use Rattle.sol_files.proofs.write.put_options.Goals as goal

pub loop-option-preserved : goal.loop-option-preserved
loop-option-preserved c = mapped_step signed_decimal _ _ _ c.args.options.now c.loop-option.option-index _ (pos 0)
    c.loop-option-test.true (search rules) c.loop-option.invariant c.in_ok-put_option.ensures
