use Rattle.std.proofs.Common.{◌≡◌, ◌∙◌, ◌+◌, ◌<◌, sym, ap, subst, subst₂, refl, arith, length, get_or}
use Rattle.std.specs.List.Sorted.{IsNonDecreasingBy}
use Rattle.std.proofs.lemmas.List.Sorted.{IsNonDecreasingBy-from_sort}
use Rattle.linear_program.specs.Coefs.{coef_in}
use Rattle.linear_program.proofs.CoefLemmas.{not_zero}
use Rattle.linear_program.proofs.PlaceLemmas.{place_at, no_marks}
use Rattle.linear_program.proofs.Closing.{Closing, closing_begin, closing_pass, closing_more, closed_zeros, closed_coefs, touched_place}
use Rattle.linear_program.proofs.marked_places.MarkedPlaces.close.Goals as goal
use Rattle.linear_program.proofs.marked_places.MarkedPlaces.close.Goals.{In-loop-variable, then-not-is_zero+in_ok-push, else-not-is_zero}

-- what was touched is a place
there : (c : In-loop-variable) → get_or c.deref-variable-items.result.now c.loop-variable.variable-index 0 < length c.loop-variable.places.items
there c =
    let i = c.loop-variable.variable-index in
    let seen = c.deref-variable-items.ensures.value in
    let h : get_or c.deref-variable-items.result.now i 0 < length c.self.inside.places.items =
    subst (λ l. get_or l i 0 < length c.self.inside.places.items) (sym seen)
    (touched_place c.self.inside.places.items c.self.inside.touched.items c.sort_unstable.new.self.items i
    c.self.invariant c.sort_unstable.ensures.permutation (subst (λ l. i < length l) seen c.loop-variable-test.true))
    in
    let same : length c.loop-variable.places.items ≡ length c.self.inside.places.items = c.loop-variable.invariant.count ∙ ap length (sym c.self.view_is) in
    subst (λ n. get_or c.deref-variable-items.result.now i 0 < n) (sym same) h

pub loop-variable-init : goal.loop-variable-init
loop-variable-init c =
    closing_begin c.args.self c.self.inside.places.items c.self.inside.touched.items c.sort_unstable.new.self.items
    c.deref-variable-items.result.now c.in_ok-items.items.items c.self.view_is c.in_ok-items.ensures.items
    c.deref-variable-items.ensures.value c.self.invariant c.sort_unstable.ensures.permutation

pub index-value-requires : goal.index-value-requires
index-value-requires c = let h = there (goal.at.index-value-requires c).In-loop-variable in omega (arith, c.loop-variable.places.ok.0)

pub index_mut-requires : goal.index_mut-requires
index_mut-requires c = let h = there (goal.at.index_mut-requires c).In-loop-variable in omega (arith, c.loop-variable.places.ok.0)

pub loop-variable-preserved : goal.loop-variable-preserved
loop-variable-preserved c =
    let i = c.loop-variable.variable-index in
    let seen = c.deref-variable-items.ensures.value in
    let touched = c.deref-variable-items.result.now in
    let j = get_or touched i 0 in
    let within = there (goal.at.loop-variable-preserved c).In-loop-variable in
    let rising : IsNonDecreasingBy (λ x. x) touched = subst (IsNonDecreasingBy (λ x. x)) (sym seen)
    (IsNonDecreasingBy-from_sort (λ x. x) c.sort_unstable.new.self.items c.sort_unstable.ensures.sorted) in
    let at = place_at c.loop-variable.places.items j c.index-value.result.now within c.index-value.ensures in
    elim c.if-not-is_zero.branch [
      | then-not-is_zero+in_ok-push w ↦
          (subst₂ (λ ps out. Closing c.args.self ps out touched (i + 1)) (ap (λ v. v.items) (sym w.places-is)) (sym w.in_ok-push.ensures.items ∙ ap (λ v. v.items) (sym w.items-is))
          (closing_more c.args.self c.loop-variable.places.items c.loop-variable.items.items touched i j
          c.index-value.result.now w.zero.result c.loop-variable-test.true refl at rising c.loop-variable.invariant
          (not_zero c.is_zero.result _ c.is_zero.ensures.1 w.if-not-is_zero.true) w.zero.ensures within))
      | else-not-is_zero w ↦
          (subst₂ (λ ps out. Closing c.args.self ps out touched (i + 1)) (ap (λ v. v.items) (sym w.places-is)) (ap (λ v. v.items) (sym w.items-is))
          (closing_pass c.args.self c.loop-variable.places.items c.loop-variable.items.items touched i j
          c.index-value.result.now c.index-value.result.now c.loop-variable-test.true refl at rising
          c.loop-variable.invariant
          (c.is_zero.ensures.0 w.if-not-is_zero.false)))
    ]

pub invariant_of-marked : goal.invariant_of-marked
invariant_of-marked c = no_marks c.loop-variable.places.items c.clear.new.self.items
    (let h = c.self.invariant.few in let same : length c.loop-variable.places.items ≡ length c.self.inside.places.items =
    c.loop-variable.invariant.count ∙ ap length (sym c.self.view_is) in omega arith) c.clear.ensures.items
    (closed_zeros c.args.self c.loop-variable.places.items c.loop-variable.items.items c.deref-variable-items.result.now
    c.loop-variable.variable-index c.loop-variable-test.false c.loop-variable.invariant)

pub of_items-requires : goal.of_items-requires
of_items-requires c = c.loop-variable.invariant.ascending

pub returns-clause-coefficients : goal.returns-clause-coefficients
returns-clause-coefficients c j =
    ap (λ l. coef_in l j) c.of_items.ensures ∙ closed_coefs c.args.self c.loop-variable.places.items
    c.loop-variable.items.items c.deref-variable-items.result.now c.loop-variable.variable-index
    c.loop-variable-test.false c.loop-variable.invariant j

pub returns-clause-zeros : goal.returns-clause-zeros
returns-clause-zeros c = closed_zeros c.args.self c.loop-variable.places.items c.loop-variable.items.items
    c.deref-variable-items.result.now c.loop-variable.variable-index c.loop-variable-test.false c.loop-variable.invariant

pub returns-clause-count : goal.returns-clause-count
returns-clause-count c = c.loop-variable.invariant.count
