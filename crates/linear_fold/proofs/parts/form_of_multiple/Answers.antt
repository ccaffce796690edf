use Rattle.std.proofs.Common.{◌∙◌, ◌≤◌, ap, arith, length, refl, subst, sym}
use Rattle.exact_numbers.specs.Values.{frac_value}
use Rattle.linear_program.specs.Lines.{Line}
use Rattle.linear_program.specs.Coefs.{coef_in}
use Rattle.linear_program.specs.Forms.{form_line}
use Rattle.linear_fold.proofs.Operators.{multiple_of_zero, multiple_term}
use Rattle.linear_fold.proofs.parts.form_of_multiple.Goals as goal

pub returns-then-is_zero-clause-line : goal.returns-then-is_zero-clause-line
returns-then-is_zero-clause-line c = c.new-zero.ensures.line ∙ multiple_of_zero c.args.variable (frac_value c.args.factor) _ (c.is_zero.ensures.0 c.if-is_zero.true) refl

pub returns-clause-line : goal.returns-clause-line
returns-clause-line c =
    c.with_coefficients.ensures.line
    ∙ ap (λ ts. let l : Line = record { constant = (form_line c.new-zero.result).constant; coef = coef_in ts } in l) c.in_ok-coefficients.ensures
    ∙ multiple_term c.args.factor c.args.variable (form_line c.new-zero.result).constant (ap (λ l. l.constant) c.new-zero.ensures.line)

pub returns-then-is_zero-clause-few : goal.returns-then-is_zero-clause-few
returns-then-is_zero-clause-few c = subst (λ ts. length ts ≤ 1) (sym c.new-zero.ensures.terms) (omega arith)

pub returns-clause-few : goal.returns-clause-few
returns-clause-few c = subst (λ ts. length ts ≤ 1) (sym (c.with_coefficients.ensures.terms ∙ c.in_ok-coefficients.ensures)) (omega arith)
