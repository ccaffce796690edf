use Rattle.std.proofs.Common.{arith, subst}
use Rattle.linear_fold.specs.InsideFolds.{ArePartsWithin}
use Rattle.linear_fold.proofs.Folding.{top_first}
use Rattle.linear_fold.proofs.SumLemmas.{left_more, popped_length}
use Rattle.linear_fold.proofs.fold.let_go.Goals as goal

pub loop-preserved : goal.loop-preserved
loop-preserved c =
    record {
      left = left_more c.loop.counter c.args.stack.now.items c.loop.stack.items c.take_last-part.new.stack.items c.take_last-part.result c.loop.invariant.left c.take_last-part.ensures;
      size = (let h = c.loop.invariant.size in let k = popped_length c.loop.stack.items c.take_last-part.new.stack.items c.take_last-part.result c.take_last-part.ensures in omega arith);
      within = (subst (ArePartsWithin c.args.variables) (top_first c.loop.stack.items c.take_last-part.new.stack.items c.take_last-part.result c.take_last-part.ensures) c.loop.invariant.within).1;
      pad = c.in_ok-close.ensures.pad;
    }
