use Rattle.std.proofs.Common.{◌∙◌, ap, refl, subst, sym}
use Rattle.text_base.specs.Stopped.{IfFault}
use Rattle.exact_numbers.specs.Values.{frac_value}
use Rattle.exact_numbers.specs.Fits.{fits}
use Rattle.exact_numbers.specs.Rational.{◌*ℚ◌}
use Rattle.linear_program.specs.Lines.{Line}
use Rattle.linear_program.specs.Coefs.{AreProducts, HasWideProduct, coef_in}
use Rattle.linear_program.specs.Forms.{form_line, form_terms}
use Rattle.linear_program.proofs.Products.{constant_wide, products_are, products_ascend, stop_multiplies}
use Rattle.linear_program.proofs.form.Form.times.Goals as goal

pub returns-in-Err-clause-product : goal.returns-in-Err-clause-product
returns-in-Err-clause-product g c =
    let k = frac_value c.args.k in
    stop_multiplies (form_line c.args.self.now) k (form_terms c.args.self.now) (λ j. refl)
    c.terms-terms.ensures.ascending c.in-Err.stop (subst (λ ts. IfFault c.in-Err.stop (λ w. HasWideProduct k ts))
    c.terms-terms.ensures.terms c.in-Err.ensures.wide)

pub of_items-requires : goal.of_items-requires
of_items-requires g c =
    let k = frac_value c.args.k in
    products_ascend 0 k (form_terms c.args.self.now) c.in-Ok.items.items c.requires
    (subst (λ ts. AreProducts k ts c.in-Ok.items.items) c.terms-terms.ensures.terms c.in-Ok.ensures.products)
    c.terms-terms.ensures.ascending

pub returns-clause-product : goal.returns-clause-product
returns-clause-product g c =
    let k = frac_value c.args.k in
    let made = subst (λ ts. AreProducts k ts c.in-Ok.items.items) c.terms-terms.ensures.terms c.in-Ok.ensures.products in
    let all = products_are (form_line c.args.self.now) k (form_terms c.args.self.now) (λ j. refl)
    (frac_value c.in-Some.constant) c.in-Ok.items.items (ap (λ x. fits (k *ℚ x)) (sym c.constant.ensures)
    ∙ c.in-Some.ensures.0) (c.in-Some.ensures.1 ∙ ap (λ x. k *ℚ x) c.constant.ensures) made in (
      all.0,
      c.of_parts.ensures.line ∙ ap (λ ts. let l : Line = record { constant = frac_value c.in-Some.constant; coef = coef_in ts } in l) c.of_items.ensures ∙ all.1,
    )

pub returns-in_default-clause-product : goal.returns-in_default-clause-product
returns-in_default-clause-product g c =
    constant_wide (form_line c.args.self.now) (frac_value c.args.k) (form_terms c.args.self.now) (λ j. refl) (ap (λ x. fits (frac_value c.args.k *ℚ x)) (sym c.constant.ensures) ∙ c.in_default.ensures)
