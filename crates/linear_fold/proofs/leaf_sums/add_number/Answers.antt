use Rattle.std.proofs.Common.{Some, refl}
use Rattle.linear_fold.specs.declared.leaf_sums.LeafSum.{LeafSum}
use Rattle.linear_fold.proofs.LeafLemmas.{number_added}
use Rattle.linear_fold.proofs.leaf_sums.add_number.Goals as goal

pub returns : goal.returns
returns c n t held =
    let old = c.args.sum.now in
    let new : LeafSum = record { terms = old.terms; number = Some c.in-Some.fraction; least = old.least } in
    number_added n old new c.args.number c.in-Some.fraction held c.in-None.is c.in-Some.ensures.0 c.in-Some.ensures.1 refl refl refl
