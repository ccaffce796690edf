use Rattle.std.proofs.Common.{arith}
use Rattle.exact_numbers.proofs.OfDec.{cancelled_more}
use Rattle.exact_numbers.proofs.of_dec.cancel_few.Goals as goal

pub loop-left-preserved : goal.loop-left-preserved
loop-left-preserved c =
    record {
      within = omega arith;
      whole = cancelled_more _ _ _ _ _ c.loop-left-test.true c.loop-left.invariant.within c.loop-left.invariant.whole c.if-rest-factor-eq0.true;
    }
