use Rattle.std.proofs.Common.{◌≡◌, ◌∙◌, ◌<◌, ◌≤◌, Some, ap₂, get_or, length, refl, subst, sym}
use Rattle.certificates.specs.Checked.{plus_product}
use Rattle.exact_numbers.specs.Values.{frac_value}
use Rattle.exact_checks.specs.Sums.{short_value}
use Rattle.exact_checks.proofs.CostLemmas.{short_is_short}
use Rattle.exact_checks.proofs.ShortLemmas.{short_fits}
use Rattle.exact_checks.proofs.FormPoints.{OnForm, form_begins, form_ends, form_goes_on, form_index, form_skips}
use Rattle.exact_checks.proofs.form_at.short_value_of.Goals as goal

pub loop-place-init : goal.loop-place-init
loop-place-init c =
    subst (OnForm (frac_value c.args.constant) c.args.terms.now c.args.x.now 0) (sym c.in_ok-sum.ensures) (form_begins (frac_value c.args.constant) c.args.terms.now c.args.x.now c.requires)

pub bounds-x-entry : goal.bounds-x-entry
bounds-x-entry c =
    let at = c.term-entry.ensures in
    subst (λ j. j < length c.args.x.now) (sym at.2) (form_index (frac_value c.args.constant) c.args.terms.now
    c.args.x.now c.loop-place.place (short_value c.loop-place.sum) c.loop-place.invariant at.0
    (subst (λ n. c.loop-place.place < n) c.len-place-end.ensures.count c.loop-place-test.true) at.1)

pub loop-place-preserved-then-is_zero : goal.loop-place-preserved-then-is_zero
loop-place-preserved-then-is_zero c =
    let at = c.term-entry.ensures in
    let x = c.index-x-entry.result in
    form_skips (frac_value c.args.constant) c.args.terms.now c.args.x.now c.loop-place.place
    (short_value c.loop-place.sum) c.loop-place.invariant at.0
    (subst (λ n. c.loop-place.place < n) c.len-place-end.ensures.count c.loop-place-test.true) at.1 x
    (subst (λ j. x ≡ get_or c.args.x.now j x) at.2 c.index-x-entry.is) (c.is_zero.ensures.0 c.if-is_zero.true)
    (short_fits (short_value c.loop-place.sum) (short_is_short c.loop-place.sum))

pub loop-place-preserved : goal.loop-place-preserved
loop-place-preserved c =
    let at = c.term-entry.ensures in
    let x = c.index-x-entry.result in
    form_goes_on (frac_value c.args.constant) c.args.terms.now c.args.x.now c.loop-place.place
    (short_value c.loop-place.sum) c.loop-place.invariant at.0
    (subst (λ n. c.loop-place.place < n) c.len-place-end.ensures.count c.loop-place-test.true) at.1 x
    (subst (λ j. x ≡ get_or c.args.x.now j x) at.2 c.index-x-entry.is) (Some (short_value c.in_ok-sum-2.sum))
    (sym c.in_ok-sum-2.ensures ∙ ap₂ (λ a v. plus_product (short_value c.loop-place.sum) a v) (c.in_ok-factor.ensures ∙ at.3) c.in_ok-value.ensures)
    (short_value c.in_ok-sum-2.sum) refl

pub returns : goal.returns
returns c = form_ends (frac_value c.args.constant) c.args.terms.now c.args.x.now c.loop-place.place
    (short_value c.loop-place.sum) c.loop-place.invariant (subst (λ n. n ≤ c.loop-place.place)
    c.len-place-end.ensures.count c.loop-place-test.false)
