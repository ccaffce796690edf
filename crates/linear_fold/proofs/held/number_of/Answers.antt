use Rattle.linear_fold.proofs.HeldLemmas.{zero_number}
use Rattle.linear_fold.proofs.held.number_of.Goals as goal

pub returns-in-None : goal.returns-in-None
returns-in-None c = rw c.in-None.is (zero_number c.zero.result c.zero.ensures)

pub returns-in-Some-number_in : goal.returns-in-Some-number_in
returns-in-Some-number_in c = rw c.in-Some.is (c.in-Some-number_in.ensures c.in-Some.expr.now c.nodes.ensures)
