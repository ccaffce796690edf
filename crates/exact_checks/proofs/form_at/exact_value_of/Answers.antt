use Rattle.std.proofs.Common.{◌<◌, ◌≤◌, None, Some, refl, subst}
use Rattle.exact_numbers.proofs.Bridge.{frac_fits_lem}
use Rattle.exact_numbers.specs.Values.{frac_value}
use Rattle.exact_checks.proofs.FormPoints.{form_begins, form_ends, form_goes_on, form_index, form_skips, form_stops}
use Rattle.exact_checks.proofs.form_at.exact_value_of.Goals as goal

pub loop-place-init : goal.loop-place-init
loop-place-init c = form_begins (frac_value c.args.constant) c.args.terms.now c.args.x.now c.requires

pub bounds-x-term : goal.bounds-x-term
bounds-x-term c = form_index (frac_value c.args.constant) c.args.terms.now c.args.x.now c.loop-place.place
    (frac_value c.loop-place.sum) c.loop-place.invariant c.at-term.result
    (subst (λ n. c.loop-place.place < n) c.len-place-end.ensures.count c.loop-place-test.true) c.at-term.ensures

pub loop-place-preserved-then-is_zero : goal.loop-place-preserved-then-is_zero
loop-place-preserved-then-is_zero c = form_skips (frac_value c.args.constant) c.args.terms.now c.args.x.now
    c.loop-place.place (frac_value c.loop-place.sum) c.loop-place.invariant c.at-term.result
    (subst (λ n. c.loop-place.place < n) c.len-place-end.ensures.count c.loop-place-test.true) c.at-term.ensures
    c.index-x-term.result c.index-x-term.is (c.is_zero.ensures.0 c.if-is_zero.true) (frac_fits_lem c.loop-place.sum)

pub returns-in-None : goal.returns-in-None
returns-in-None c = form_stops (frac_value c.args.constant) c.args.terms.now c.args.x.now c.loop-place.place
    (frac_value c.loop-place.sum) c.loop-place.invariant c.at-term.result
    (subst (λ n. c.loop-place.place < n) c.len-place-end.ensures.count c.loop-place-test.true) c.at-term.ensures
    c.index-x-term.result c.index-x-term.is None c.in-None.ensures refl

pub loop-place-preserved : goal.loop-place-preserved
loop-place-preserved c = form_goes_on (frac_value c.args.constant) c.args.terms.now c.args.x.now c.loop-place.place
    (frac_value c.loop-place.sum) c.loop-place.invariant c.at-term.result
    (subst (λ n. c.loop-place.place < n) c.len-place-end.ensures.count c.loop-place-test.true) c.at-term.ensures
    c.index-x-term.result c.index-x-term.is (Some (frac_value c.in-Some.next)) c.in-Some.ensures
    (frac_value c.in-Some.next) refl

pub returns : goal.returns
returns c = form_ends (frac_value c.args.constant) c.args.terms.now c.args.x.now c.loop-place.place
    (frac_value c.loop-place.sum) c.loop-place.invariant (subst (λ n. n ≤ c.loop-place.place)
    c.len-place-end.ensures.count c.loop-place-test.false)
