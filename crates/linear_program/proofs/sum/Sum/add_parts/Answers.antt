use Rattle.std.proofs.Common.{◌∙◌, sym, ap, subst, refl}
use Rattle.exact_numbers.specs.Values.{frac_value}
use Rattle.exact_numbers.specs.Fits.{fits, sum_fits}
use Rattle.exact_numbers.specs.Rational.{◌+ℚ◌, ◌*ℚ◌}
use Rattle.linear_program.specs.Coefs.{AreBelow}
use Rattle.linear_program.specs.Forms.{SumsUp, form_line, form_terms, place_count, sum_line}
use Rattle.linear_program.specs.Places.{place_in}
use Rattle.linear_program.proofs.FracLemmas.{place_fits}
use Rattle.linear_program.proofs.Scaled.{scaled_parts, terms_below}
use Rattle.linear_program.proofs.sum.Sum.add_parts.Goals as goal

pub add_terms-requires : goal.add_terms-requires
add_terms-requires g c =
    subst (AreBelow (place_count c.args.self.now)) (sym c.terms-terms.ensures.terms)
    (terms_below (place_count c.args.self.now) 0 (form_terms c.args.form.now) c.terms-terms.ensures.ascending c.requires)

pub returns-clause-sums : goal.returns-clause-sums
returns-clause-sums g c =
    let k = frac_value c.args.k in
    let own = frac_value c.args.self.now.constant in
    let product = c.in-Some.ensures in
    let sum = c.in-Some-add.ensures in
    let other = ap (λ x. k *ℚ x) c.constant.ensures in
    let scaled = product.1 ∙ other in
    scaled_parts (sum_line c.args.self.now) (form_line c.args.form.now) (frac_value c.in-Some-add.sum) k
    (form_terms c.args.form.now) (place_fits c.args.self.now.accumulator.value) c.terms-terms.ensures.ascending
    (λ j. refl)
    (ap (λ x. fits (k *ℚ x)) (sym c.constant.ensures) ∙ product.0) (ap (sum_fits own) (sym scaled) ∙ sum.0) (sum.1 ∙ ap (λ x. own +ℚ x) scaled)
    (sum_line c.add_terms.new.self) c.add_terms.result
    (subst (λ ts. SumsUp (record {
      constant = frac_value c.in-Some-add.sum;
      coef =
          place_in c.args.self.now.accumulator.value;
    }) k ts (sum_line c.add_terms.new.self) c.add_terms.result)
    c.terms-terms.ensures.terms c.add_terms.ensures.sums)
