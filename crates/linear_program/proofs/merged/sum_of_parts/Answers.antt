use Rattle.std.proofs.Common.{◌≡◌, ◌∙◌, List, false, ap, refl, subst, subst₂, sym}
use Rattle.text_base.specs.Stopped.{IfFault}
use Rattle.exact_numbers.specs.Values.{frac_value}
use Rattle.exact_numbers.specs.Fits.{fits, sum_fits}
use Rattle.exact_numbers.specs.Rational.{ℚ, ◌+ℚ◌, ◌*ℚ◌}
use Rattle.linear_program.specs.Coefs.{Term}
use Rattle.linear_program.specs.Forms.{AreSummedUp, IsScaledSum, adds_fit, form_line, form_terms, parts_line}
use Rattle.linear_program.proofs.Merging.{list_stopped, list_summed}
use Rattle.linear_program.proofs.merged.sum_of_parts.Goals as goal

pub returns-in-Ok-clause-sums : goal.returns-in-Ok-clause-sums
returns-in-Ok-clause-sums g c =
    let k = frac_value c.args.k in
    let own = frac_value c.args.constant in
    let product = c.in-Some.ensures in
    let sum = c.in-Some-add.ensures in
    let scaled = product.1 ∙ ap (λ x. k *ℚ x) c.constant.ensures in
    let made = subst₂ (λ xs ts. AreSummedUp xs k ts c.in-Ok.items.items) c.ordered-list.ensures.same c.terms-terms.ensures.terms c.in-Ok.ensures.sums in
    subst (λ xs. IsScaledSum (parts_line own c.args.list.now) k (form_line c.args.other.now) (parts_line (frac_value c.in-Some-add.sum) xs)) (sym c.of_items.ensures)
    (list_summed own (frac_value c.in-Some-add.sum) k c.args.list.now (form_terms c.args.other.now) (form_line c.args.other.now) c.terms-terms.ensures.ascending (λ j. refl)
    (ap (λ x. fits (k *ℚ x)) (sym c.constant.ensures) ∙ product.0) (ap (sum_fits own) (sym scaled) ∙ sum.0) (sum.1 ∙ ap (λ x. own +ℚ x) scaled)
    c.in-Ok.items.items made)

pub returns-in-Err-clause-wide : goal.returns-in-Err-clause-wide
returns-in-Err-clause-wide g c =
    let k = frac_value c.args.k in
    let own = frac_value c.args.constant in
    let product = c.in-Some.ensures in
    let sum = c.in-Some-add.ensures in
    let scaled = product.1 ∙ ap (λ x. k *ℚ x) c.constant.ensures in
    list_stopped own (frac_value c.in-Some-add.sum) k c.args.list.now (form_terms c.args.other.now) (form_line c.args.other.now) c.terms-terms.ensures.ascending (λ j. refl)
    (ap (λ x. fits (k *ℚ x)) (sym c.constant.ensures) ∙ product.0) (ap (sum_fits own) (sym scaled) ∙ sum.0) (sum.1 ∙ ap (λ x. own +ℚ x) scaled)
    c.in-Err.stop
    (subst₂ (λ (xs ts : List Term). IfFault c.in-Err.stop (λ w. (q : ℚ) → adds_fit (parts_line q xs) k ts ≡ false)) c.ordered-list.ensures.same c.terms-terms.ensures.terms c.in-Err.ensures.wide)
