use Rattle.std.proofs.Common.{◌≡◌, ◌∙◌, ◌==◌, ℕ, ap, sym, length}
use Rattle.std.proofs.lemmas.Result.{IfOk-weaker, on_ok_weaker}
use Rattle.linear_program.specs.Coefs.{coef_in}
use Rattle.linear_program.specs.Places.{all_places, place_in, put_all}
use Rattle.linear_program.proofs.HeldPlaces.{all_place, all_zeros, emptied}
use Rattle.linear_program.proofs.PutLemmas.{none_there, put_length, put_coef, some_there}
use Rattle.linear_program.proofs.accumulator.Accumulator.take.Goals as goal

pub returns-then-is_empty-clause-coefficients : goal.returns-then-is_empty-clause-coefficients
returns-then-is_empty-clause-coefficients c =
    let w = c.self.inside in
    let none = none_there w.listed (c.if-is_empty.ensures ∙ ap (λ l. length l == 0) c.items.ensures.items) in
    let same : (j : ℕ) → place_in w.places j ≡ place_in c.args.self.now j =
    λ j. all_place w.count w.empty c.self.invariant.absent w.places j
    ∙ ap (λ l. place_in (put_all l (all_places w.count w.empty w.places)) j) (sym none)
    ∙ ap (λ l. place_in l j) c.self.view_is in
    IfOk-weaker c.take.result _ _ (λ r h j. h j ∙ same j) c.take.ensures.coefficients

pub returns-then-is_empty-clause-zeros : goal.returns-then-is_empty-clause-zeros
returns-then-is_empty-clause-zeros c =
    let w = c.self.inside in
    on_ok_weaker c.take.result
    (emptied w.count w.empty c.self.invariant.absent c.take.new.self w.listed (none_there w.listed (c.if-is_empty.ensures ∙ ap (λ l. length l == 0) c.items.ensures.items)))
    c.take.ensures.zeros

pub returns-clause-coefficients : goal.returns-clause-coefficients
returns-clause-coefficients c j =
    let w = c.self.inside in
    let ps = all_places w.count w.empty w.places in
    let zeros = all_zeros w.count w.empty c.self.invariant.absent w.places (c.self.invariant.zeros (some_there w.listed (c.if-is_empty.ensures ∙ ap (λ l. length l == 0) c.items.ensures.items))) in
    ap (λ l. coef_in l j) (c.of_fractions.ensures ∙ c.in_ok-terms.ensures ∙ c.items-2.ensures.items)
    ∙ put_coef 0 w.listed ps j c.items.ensures.ascending c.self.invariant.below (zeros j) ∙ ap (λ l. place_in l j) c.self.view_is

pub returns-clause-zeros : goal.returns-clause-zeros
returns-clause-zeros c =
    let w = c.self.inside in
    emptied w.count w.empty c.self.invariant.absent w.places c.clear.new.self c.clear.ensures
    (c.self.invariant.zeros (some_there w.listed (c.if-is_empty.ensures ∙ ap (λ l. length l == 0) c.items.ensures.items)))

pub returns-clause-count : goal.returns-clause-count
returns-clause-count c =
    let w = c.self.inside in
    let ps = all_places w.count w.empty w.places in
    put_length c.clear.new.self ps ∙ sym (put_length w.listed ps) ∙ ap length c.self.view_is
