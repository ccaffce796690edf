use Rattle.std.proofs.Common.{◌≡◌, ◌∙◌, ◌==◌, [], ap, sym, length}
use Rattle.linear_program.specs.Places.{all_places, place_in, put_all, terms_from}
use Rattle.linear_program.proofs.HeldPlaces.{all_terms, all_zeros}
use Rattle.linear_program.proofs.PlaceTerms.{same_terms, terms_ascend, terms_coef}
use Rattle.linear_program.proofs.PutLemmas.{none_there, put_coef, some_there}
use Rattle.linear_program.proofs.accumulator.Accumulator.terms.Goals as goal

pub returns-then-is_empty-clause-terms : goal.returns-then-is_empty-clause-terms
returns-then-is_empty-clause-terms c =
    let w = c.self.inside in
    let ts = w.listed in
    let none : ts ≡ [] = none_there ts (c.if-is_empty.ensures ∙ ap (λ l. length l == 0) c.items-listed.ensures.items) in
    all_terms w.count w.empty c.self.invariant.absent w.places ∙ ap (λ l. terms_from 0 (put_all l (all_places w.count w.empty w.places))) (sym none) ∙ ap (terms_from 0) c.self.view_is

pub returns-then-is_empty-clause-ascending : goal.returns-then-is_empty-clause-ascending
returns-then-is_empty-clause-ascending c = terms_ascend 0 c.args.self.now

pub returns-clause-terms : goal.returns-clause-terms
returns-clause-terms c =
    let w = c.self.inside in
    let ts = w.listed in
    let ps = all_places w.count w.empty w.places in
    let now = c.args.self.now in
    let zeros = all_zeros w.count w.empty c.self.invariant.absent w.places (c.self.invariant.zeros (some_there ts (c.if-is_empty.ensures ∙ ap (λ l. length l == 0) c.items-listed.ensures.items))) in
    c.items-listed.ensures.items
    ∙ same_terms 0 ts (terms_from 0 now) c.items-listed.ensures.ascending (terms_ascend 0 now)
    (λ j. put_coef 0 ts ps j c.items-listed.ensures.ascending c.self.invariant.below (zeros j) ∙ ap (λ l. place_in l j) c.self.view_is ∙ sym (terms_coef now j))

pub returns-clause-ascending : goal.returns-clause-ascending
returns-clause-ascending c = terms_ascend 0 c.args.self.now
