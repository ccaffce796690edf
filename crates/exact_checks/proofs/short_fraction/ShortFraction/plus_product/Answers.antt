use Rattle.exact_checks.proofs.CostLemmas.{short_plus}
use Rattle.exact_checks.proofs.short_fraction.ShortFraction.plus_product.Goals as goal

pub returns : goal.returns
returns c = short_plus c.less.result c.args.self c.args.factor c.args.number c.in_ok-negated.negated c.in_ok-part.part c.in_ok-negated.ensures c.in_ok-part.ensures c.less.ensures
