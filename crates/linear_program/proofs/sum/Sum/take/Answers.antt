use Rattle.std.proofs.Common.{◌∙◌, ap, refl}
use Rattle.linear_program.specs.Forms.{sum_line}
use Rattle.linear_program.specs.Places.{place_in}
use Rattle.linear_program.proofs.Scaled.{same_line}
use Rattle.linear_program.proofs.sum.Sum.take.Goals as goal

pub returns-clause-line : goal.returns-clause-line
returns-clause-line c =
    c.of_parts-form.ensures.line ∙ same_line _ (sum_line c.args.self.now) refl (λ j. c.in_ok-coefficients.ensures.coefficients j ∙ ap (λ l. place_in l j) c.deref_mut.ensures.value)

pub returns-clause-zero : goal.returns-clause-zero
returns-clause-zero c = same_line _ _ c.zero-self.ensures c.in_ok-coefficients.ensures.zeros
