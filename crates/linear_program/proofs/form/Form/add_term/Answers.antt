use Rattle.std.proofs.Common.{◌∙◌, ap, subst₂, sym}
use Rattle.exact_numbers.specs.Values.{frac_value}
use Rattle.linear_program.specs.Lines.{Line}
use Rattle.linear_program.specs.Coefs.{AddsAt}
use Rattle.linear_program.specs.Forms.{kept_constant, kept_terms, parts_line}
use Rattle.linear_program.proofs.PlaceTerms.{open_line}
use Rattle.linear_program.proofs.form.Form.add_term.Goals as goal

pub returns-clause-adds : goal.returns-clause-adds
returns-clause-adds c =
    subst₂ (λ (a b : Line). AddsAt a.coef c.args.variable (frac_value c.args.factor) b.coef c.add_term.result)
    (sym (ap (λ q. parts_line (frac_value (kept_constant q)) (kept_terms q)) c.in-Open.is ∙ open_line c.in-Open.sum)) (sym (open_line c.add_term.new.self)) c.add_term.ensures.adds
