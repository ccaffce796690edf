use Rattle.std.proofs.Common.{◌∙◌, ◌+◌, refl, sym}
use Rattle.linear_program.proofs.CoefLemmas.{not_zero}
use Rattle.linear_fold.specs.declared.leaf_sums.LeafSum.{LeafSum}
use Rattle.linear_fold.proofs.LeafLemmas.{multiple_added}
use Rattle.linear_fold.proofs.leaf_sums.add_multiple.Goals as goal

pub returns : goal.returns
returns c t =
    let old = c.args.sum.now in
    let new : LeafSum = record { terms = c.push.new.self; number = old.number; least = c.args.variable + 1 } in
    multiple_added c.args.variables old c.requires c.args.variable c.args.factor c.if-variable-sum.false
    c.if-variable-variables.false (not_zero c.is_zero.result _ c.is_zero.ensures.1 c.if-is_zero.false)
    (sym c.has_fraction.ensures ∙ c.if-not-has_fraction.false) new c.in_ok-push.ensures.ok refl refl
