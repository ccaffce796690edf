use Rattle.std.proofs.Common.{◌∙◌, sym}
use Rattle.row_scaling.proofs.AddLemmas.{of_both, of_one}
use Rattle.row_scaling.proofs.bounds.side_bounds.Goals as goal

pub returns-then-same_value : goal.returns-then-same_value
returns-then-same_value c = of_one c.args.side c.in-Some-Some.lower c.in-Some-Some.upper c.in-Some-Some.is-0 c.in-Some-Some.is-1 (c.same_value.ensures.0 c.if-same_value.true)

pub returns-else-same_value : goal.returns-else-same_value
returns-else-same_value c = of_both c.args.side c.in-Some-Some.lower c.in-Some-Some.upper c.in-Some-Some.is-0
    c.in-Some-Some.is-1 (λ e. (let f = sym c.if-same_value.false ∙ c.same_value.ensures.1 e in cc))
