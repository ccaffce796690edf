use Rattle.linear_fold.proofs.LeafLemmas.{quotient_multiple}
use Rattle.linear_fold.proofs.leaf_sums.quotient_at.Goals as goal

pub returns : goal.returns
returns c =
    quotient_multiple c.args.nodes.now c.args.place c.in-Some-plain_multiple.dividend c.in-Some-number_at.divisor
    c.in-Some-inverse.reciprocal c.in-Some-mul.factor c.requires.quotient c.in-Some-plain_multiple.ensures
    c.in-Some-number_at.ensures c.in-Some-inverse.ensures c.in-Some-mul.ensures.1
