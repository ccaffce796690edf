use Rattle.std.proofs.Common.{◌≡◌, ◌+◌, ◌-◌, ◌∷◌, arith, reverse, subst, take}
use Rattle.linear_fold.specs.InsideOperates.{part_line}
use Rattle.linear_fold.proofs.SumLemmas.{Adding, adding_end, adding_init, adding_more, adding_stop, left_at_most}
use Rattle.linear_fold.proofs.SumLemmas.{left_more, next_operand, next_taken, no_operand, none_left, popped_length}
use Rattle.linear_fold.proofs.SumLemmas.{steps_more, steps_within}
use Rattle.linear_fold.proofs.sums.add_all.Goals as goal
use Rattle.linear_fold.proofs.sums.add_all.Goals.{After-take_last-part}

pub loop-init : goal.loop-init
loop-init g c =
    record {
      adding =
          subst (λ k. Adding c.args.variables (part_line c.args.total.now) (take k (reverse c.args.stack.now.items))
          (take c.args.count (reverse c.args.stack.now.items)) (part_line c.args.total.now)) (omega arith)
          (adding_init c.args.variables (part_line c.args.total.now) (take c.args.count (reverse c.args.stack.now.items)) c.requires.total.zero_from c.requires.within);
      sound = c.requires.total.sound;
      left = none_left c.args.stack.now.items;
      room = (let h = c.requires.count in let k = c.args.stack.now.ok.0 in omega arith);
      pad = c.requires.pad;
      above = omega arith;
      below = omega arith;
    }

-- the operand that was taken is the next of those that are left
taken : (g : _) (c : After-take_last-part g) → take (c.args.count - c.loop.counter) (reverse c.loop.stack.items)
    ≡ c.take_last-part.result ∷ take (c.args.count - (c.loop.counter + 1)) (reverse c.take_last-part.new.stack.items)
taken g c =
    next_taken (c.args.count - c.loop.counter) (c.args.count - (c.loop.counter + 1)) c.loop.stack.items
    c.take_last-part.new.stack.items c.take_last-part.result (let h = c.loop-test.true in omega arith)
    c.take_last-part.ensures

pub add-requires-clause-second : goal.add-requires-clause-second
add-requires-clause-second g c =
    next_operand c.args.variables (part_line c.loop.total) (part_line c.args.total.now) c.take_last-part.result _ _ _
    (taken g (goal.at.add-requires-clause-second g c).After-take_last-part) c.loop.invariant.adding

pub loop-preserved : goal.loop-preserved
loop-preserved g c =
    record {
      adding = adding_more c.args.variables (part_line c.loop.total) (part_line c.args.total.now)
          c.take_last-part.result _ _ _ (taken g (goal.at.loop-preserved g c).After-take_last-part)
          c.loop.invariant.adding (part_line c.add.new.total) c.in-Ok.ensures.sums;
      sound = c.in-Ok.ensures.sound;
      left = left_more c.loop.counter c.args.stack.now.items c.loop.stack.items c.take_last-part.new.stack.items c.take_last-part.result c.loop.invariant.left c.take_last-part.ensures;
      room = (let h = c.loop.invariant.room in let k = popped_length c.loop.stack.items c.take_last-part.new.stack.items c.take_last-part.result c.take_last-part.ensures in omega arith);
      pad = c.in-Ok.ensures.pad;
      above = (let h = c.loop.invariant.above in let k = c.in-Ok.ensures.above in omega arith);
      below = steps_more (c.args.variables + 1) c.loop.counter c.args.steps.now c.loop.steps c.add.new.steps c.loop.invariant.below c.in-Ok.ensures.below;
    }

pub returns-in-Err-clause-sums : goal.returns-in-Err-clause-sums
returns-in-Err-clause-sums g c =
    adding_stop c.args.variables (part_line c.loop.total) (part_line c.args.total.now) c.take_last-part.result _ _ _
    (taken g (goal.at.returns-in-Err-clause-sums g c).After-take_last-part) c.loop.invariant.adding
    (part_line c.add.new.total) (part_line c.add.new.total) c.in-Err.stop c.in-Err.ensures.sums

pub returns-in-Err-clause-left : goal.returns-in-Err-clause-left
returns-in-Err-clause-left g c =
    left_at_most (c.loop.counter + 1) c.args.count c.args.stack.now.items c.take_last-part.new.stack.items (let h = c.loop-test.true in omega arith)
    (left_more c.loop.counter c.args.stack.now.items c.loop.stack.items c.take_last-part.new.stack.items c.take_last-part.result c.loop.invariant.left c.take_last-part.ensures)

pub returns-in-Err-clause-below : goal.returns-in-Err-clause-below
returns-in-Err-clause-below g c =
    steps_within (c.args.variables + 1) (c.loop.counter + 1) c.args.count c.args.steps.now c.add.new.steps (let h = c.loop-test.true in omega arith)
    (steps_more (c.args.variables + 1) c.loop.counter c.args.steps.now c.loop.steps c.add.new.steps c.loop.invariant.below c.in-Err.ensures.below)

pub returns-clause-sums : goal.returns-clause-sums
returns-clause-sums g c =
    adding_end c.args.variables (part_line c.loop.total) (part_line c.args.total.now) _ _
    (no_operand (c.args.count - c.loop.counter) (reverse c.loop.stack.items)
    (let h = c.loop-test.false in omega arith)) c.loop.invariant.adding

pub returns-clause-left : goal.returns-clause-left
returns-clause-left g c = left_at_most c.loop.counter c.args.count c.args.stack.now.items c.loop.stack.items c.loop.auto.counter-end c.loop.invariant.left

pub returns-clause-below : goal.returns-clause-below
returns-clause-below g c = steps_within (c.args.variables + 1) c.loop.counter c.args.count c.args.steps.now c.loop.steps c.loop.auto.counter-end c.loop.invariant.below
