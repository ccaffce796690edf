use Rattle.row_scaling.proofs.SharedLemmas.{by_order}
use Rattle.row_scaling.proofs.fraction_sides.same_fraction.Goals as goal

pub returns : goal.returns
returns c = by_order _ _ _ _ c.eq.ensures c.order.ensures
