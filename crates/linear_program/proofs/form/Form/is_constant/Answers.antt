use Rattle.std.proofs.Common.{◌∙◌, sym, ap}
use Rattle.exact_numbers.specs.Values.{frac_value}
use Rattle.linear_program.specs.Forms.{form_terms, kept_constant}
use Rattle.linear_program.proofs.Scaled.{constant_test, is_nil}
use Rattle.linear_program.proofs.form.Form.is_constant.Goals as goal

pub returns-in-Some-clause-constant : goal.returns-in-Some-clause-constant
returns-in-Some-clause-constant c n z =
    let f = c.args.self.now in
    let some = sym c.terms-terms.ensures.terms ∙ c.in-Some.ensures.steps in
    sym (ap is_nil some) ∙ constant_test (frac_value (kept_constant f.kept)) (form_terms f) c.terms-terms.ensures.ascending n z

pub returns-in-None-clause-constant : goal.returns-in-None-clause-constant
returns-in-None-clause-constant c n z =
    let f = c.args.self.now in
    let none = sym c.terms-terms.ensures.terms ∙ c.in-None.ensures.steps.0 in
    sym (ap is_nil none) ∙ constant_test (frac_value (kept_constant f.kept)) (form_terms f) c.terms-terms.ensures.ascending n z
