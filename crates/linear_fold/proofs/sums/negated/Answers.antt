use Rattle.linear_fold.proofs.SumLemmas.{negation_comes}
use Rattle.linear_fold.proofs.sums.negated.Goals as goal

pub returns-clause-outcome : goal.returns-clause-outcome
returns-clause-outcome c n within =
    negation_comes n c.args.stack.now.items c.take_last-part.new.stack.items c.take_last-part.result c.opposite.result c.take_last-part.ensures c.opposite.ensures.line c.opposite.ensures.sound within
