use Rattle.std.proofs.Common.{◌≡◌, ◌∷◌, ◌-◌, arith, reverse, subst, take}
use Rattle.linear_fold.specs.InsideOperates.{AreOperands}
use Rattle.linear_fold.proofs.Operators.{if_ok}
use Rattle.linear_fold.proofs.SumLemmas.{next_taken, sum_of_all_comes}
use Rattle.linear_fold.proofs.sums.sum_of_all.Goals as goal
use Rattle.linear_fold.proofs.sums.sum_of_all.Goals.{After-take_last-total}

-- the first operand and the others
first_of : (g : _) (c : After-take_last-total g) → take c.args.count (reverse c.args.stack.now.items) ≡ c.take_last-total.result ∷ take (c.args.count - 1) (reverse c.take_last-total.new.stack.items)
first_of g c = next_taken c.args.count (c.args.count - 1) c.args.stack.now.items c.take_last-total.new.stack.items
    c.take_last-total.result (let h = c.requires.some in omega arith) c.take_last-total.ensures

pub add_all-added-requires-clause-total : goal.add_all-added-requires-clause-total
add_all-added-requires-clause-total g c = (subst (AreOperands c.args.variables) (first_of g (goal.at.add_all-added-requires-clause-total g c).After-take_last-total) c.requires.within).0

pub add_all-added-requires-clause-within : goal.add_all-added-requires-clause-within
add_all-added-requires-clause-within g c = (subst (AreOperands c.args.variables) (first_of g (goal.at.add_all-added-requires-clause-within g c).After-take_last-total) c.requires.within).1

pub returns-clause-outcome : goal.returns-clause-outcome
returns-clause-outcome g c =
    if_ok c.outcome_of.result _ _
    (λ o h. sum_of_all_comes c.args.variables c.take_last-total.result
    (take (c.args.count - 1) (reverse c.take_last-total.new.stack.items)) _ o
    (first_of g (goal.at.returns-clause-outcome g c).After-take_last-total) (h _ _ c.add_all-added.ensures.sums))
    c.outcome_of.ensures.outcome
