use Rattle.std.proofs.Common.{◌∙◌, ap}
use Rattle.linear_program.specs.Coefs.{value_or_zero}
use Rattle.linear_program.specs.Decimals.{fraction_terms}
use Rattle.linear_program.specs.Forms.{parts_line}
use Rattle.linear_fold.proofs.LeafLemmas.{form_of_terms}
use Rattle.linear_fold.proofs.leaf_sums.leaf_sum.Goals as goal

pub returns-clause-form : goal.returns-clause-form
returns-clause-form g c =
    let sum = c.add_leaves.new.sum in
    let all = c.if-not-all.false in
    let held = c.in_ok-all.ensures.leaves all in
    form_of_terms c.args.variables sum.least c.args.nodes.now c.in-Some.count (value_or_zero sum.number)
    (fraction_terms sum.terms) c.of_terms.result c.in-Some.ensures held.few held.below
    (λ known. c.in_ok-all.ensures.sum known all)
    (c.of_terms.ensures.line ∙ ap (λ k. parts_line k (fraction_terms sum.terms)) c.number_or_zero.ensures)
