use Rattle.std.proofs.Common.{◌∙◌, ap₂, arith}
use Rattle.exact_numbers.specs.Rational.{zero_ℚ}
use Rattle.linear_program.specs.Lines.{Line}
use Rattle.linear_program.specs.Forms.{parts_line}
use Rattle.linear_fold.proofs.LeafLemmas.{form_of_terms}
use Rattle.linear_fold.proofs.leaf_sums.multiple_sum.Goals as goal

pub returns-clause-form : goal.returns-clause-form
returns-clause-form g c =
    let n = c.args.variables in
    let all = c.if-not-all.false in
    form_of_terms n n c.args.nodes.now c.args.count zero_ℚ c.add_multiples.new.terms.items
    c.with_coefficients-form.result c.requires (omega arith) (c.in_ok-all.ensures.terms all).below
    (λ known. c.in_ok-all.ensures.sum known all)
    (c.with_coefficients-form.ensures.line ∙ ap₂ (λ (l : Line) ts. parts_line l.constant ts) c.new.ensures.line c.of_items.ensures)
