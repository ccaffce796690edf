use Rattle.std.proofs.Common.{subst}
use Rattle.linear_fold.specs.InsideOperates.{AreOperands}
use Rattle.linear_fold.proofs.Operators.{if_ok}
use Rattle.linear_fold.proofs.SumLemmas.{difference_of, operand_opposite, two_taken}
use Rattle.linear_fold.proofs.sums.difference.Goals as goal

pub add-added-requires-clause-first : goal.add-added-requires-clause-first
add-added-requires-clause-first g c =
    let two = two_taken c.args.stack.now.items c.take_last-total.new.stack.items c.take_last-part.new.stack.items
    c.take_last-total.result c.take_last-part.result c.take_last-total.ensures c.take_last-part.ensures in
    (subst (AreOperands c.args.variables) two c.requires.within).0

pub add-added-requires-clause-second : goal.add-added-requires-clause-second
add-added-requires-clause-second g c =
    let two = two_taken c.args.stack.now.items c.take_last-total.new.stack.items c.take_last-part.new.stack.items
    c.take_last-total.result c.take_last-part.result c.take_last-total.ensures c.take_last-part.ensures in
    operand_opposite c.args.variables c.take_last-part.result c.opposite-opposite.result
    (subst (AreOperands c.args.variables) two c.requires.within).1.0 c.opposite-opposite.ensures.line
    c.opposite-opposite.ensures.sound

pub returns-clause-outcome : goal.returns-clause-outcome
returns-clause-outcome g c =
    let two = two_taken c.args.stack.now.items c.take_last-total.new.stack.items c.take_last-part.new.stack.items
    c.take_last-total.result c.take_last-part.result c.take_last-total.ensures c.take_last-part.ensures in
    if_ok c.outcome_of.result _ _
    (λ o h. difference_of c.args.variables _ c.take_last-total.result c.take_last-part.result c.opposite-opposite.result o two c.opposite-opposite.ensures.line (h _ _ c.add-added.ensures.sums))
    c.outcome_of.ensures.outcome
