use Rattle.std.proofs.Common.{◌∙◌, ◌<◌, sym, ap, arith, length}
use Rattle.linear_program.proofs.CoefLemmas.{not_zero}
use Rattle.linear_program.proofs.PlaceTerms.{no_term_here, none_from, term_here}
use Rattle.linear_program.proofs.marked_places.MarkedPlaces.term_from.Goals as goal

pub overflow_cast-result : goal.overflow_cast-result
overflow_cast-result c =
    let h = c.loop-place-test.true in
    let l = c.len-place-end.ensures in
    let f = c.self.invariant.few in
    omega (arith, c.self.inside.places.ok.0)

pub returns-then-not-is_zero-clause-term : goal.returns-then-not-is_zero-clause-term
returns-then-not-is_zero-clause-term c =
    let within : c.loop-place.place < length c.self.inside.places.items = let h = c.loop-place-test.true in (let l = c.len-place-end.ensures in omega (arith, c.self.inside.places.ok.0)) in
    sym c.loop-place.invariant
    ∙ term_here c.self.inside.places.items c.args.self.now c.self.view_is c.loop-place.place c.index-value.result.now
    within c.index-value.ensures (not_zero c.is_zero.result _ c.is_zero.ensures.1 c.if-not-is_zero.true)

pub loop-place-preserved : goal.loop-place-preserved
loop-place-preserved c =
    let within : c.loop-place.place < length c.self.inside.places.items = let h = c.loop-place-test.true in (let l = c.len-place-end.ensures in omega (arith, c.self.inside.places.ok.0)) in
    no_term_here c.self.inside.places.items c.args.self.now c.self.view_is c.loop-place.place c.index-value.result.now within c.index-value.ensures (c.is_zero.ensures.0 c.if-not-is_zero.false)
    ∙ c.loop-place.invariant

pub returns-clause-none : goal.returns-clause-none
returns-clause-none c e =
    let over = c.loop-place-test.false in
    let l = c.len-place-end.ensures in
    let long = ap length c.self.view_is in
    sym c.loop-place.invariant ∙ none_from c.args.self.now c.loop-place.place (omega (arith, c.self.inside.places.ok.0))
