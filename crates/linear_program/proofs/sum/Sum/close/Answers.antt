use Rattle.std.proofs.Common.{◌∙◌, ap, refl, sym}
use Rattle.linear_program.specs.Forms.{sum_line}
use Rattle.linear_program.specs.Places.{place_in, terms_from}
use Rattle.linear_program.proofs.PlaceTerms.{same_terms, terms_ascend, terms_coef}
use Rattle.linear_program.proofs.Scaled.{same_line}
use Rattle.linear_program.proofs.sum.Sum.close.Goals as goal

pub returns-clause-line : goal.returns-clause-line
returns-clause-line c = c.of_parts-form.ensures.line ∙ same_line _ (sum_line c.args.self) refl (λ j. c.in_ok-coefficients.ensures.coefficients j ∙ ap (λ l. place_in l j) c.deref_mut.ensures.value)

pub returns-clause-terms : goal.returns-clause-terms
returns-clause-terms c =
    let ps = c.args.self.accumulator.value in
    c.of_parts-form.ensures.terms
    ∙ same_terms 0 _ (terms_from 0 ps) c.ordered-ascending.ensures.ascending (terms_ascend 0 ps)
    (λ j. c.in_ok-coefficients.ensures.coefficients j ∙ ap (λ l. place_in l j) c.deref_mut.ensures.value
    ∙ sym (terms_coef ps j))
