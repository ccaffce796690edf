use Rattle.std.proofs.Common.{◌∙◌, ◌<◌, length, sym, ap, subst}
use Rattle.exact_numbers.specs.Values.{frac_value}
use Rattle.exact_numbers.specs.Fits.{sum_fits}
use Rattle.linear_program.specs.Places.{AreMarked}
use Rattle.linear_program.proofs.CoefLemmas.{not_zero}
use Rattle.linear_program.proofs.PlaceLemmas.{kept_marks, new_mark, place_at, seen_place, seen_write}
use Rattle.linear_program.proofs.marked_places.MarkedPlaces.add.Goals as goal

pub returns-in_default-clause-adds : goal.returns-in_default-clause-adds
returns-in_default-clause-adds c =
    ap (λ x. sum_fits x (frac_value c.args.factor)) (seen_place c.self.inside.places.items c.args.self.now
    c.self.view_is c.args.variable c.index-old.result.now c.requires c.index-old.ensures) ∙ c.in_default.ensures

pub invariant_of-self : goal.invariant_of-self
invariant_of-self c =
    let within = subst (λ l. c.args.variable < length l) (sym c.self.view_is) c.requires in
    kept_marks c.self.inside.places.items c.args.variable c.in-Some.sum within c.self.inside.touched.items c.self.invariant
    (λ z. not_zero c.is_zero.result _ c.is_zero.ensures.1 c.if-not-is_zero.true (sym (place_at c.self.inside.places.items c.args.variable c.index-old.result.now within c.index-old.ensures) ∙ z))

pub returns-then-not-is_zero-clause-adds : goal.returns-then-not-is_zero-clause-adds
returns-then-not-is_zero-clause-adds c = (
  ap (λ x. sum_fits x (frac_value c.args.factor)) (seen_place c.self.inside.places.items c.args.self.now c.self.view_is
      c.args.variable c.index-old.result.now c.requires c.index-old.ensures) ∙ c.in-Some.ensures.0,
  seen_write c.self.inside.places.items c.args.self.now c.self.view_is c.args.variable c.index-old.result.now c.requires
      c.index-old.ensures c.in-Some.sum (frac_value c.args.factor) c.in-Some.ensures.1,
)

pub invariant_of-self-2 : goal.invariant_of-self-2
invariant_of-self-2 c =
    subst (AreMarked _) (sym c.in-Ok.ensures.items)
    (new_mark c.self.inside.places.items c.args.variable c.in-Some.sum (subst (λ l. c.args.variable < length l) (sym c.self.view_is) c.requires) c.self.inside.touched.items c.self.invariant)

pub returns-clause-adds : goal.returns-clause-adds
returns-clause-adds c = (
  ap (λ x. sum_fits x (frac_value c.args.factor)) (seen_place c.self.inside.places.items c.args.self.now c.self.view_is
      c.args.variable c.index-old.result.now c.requires c.index-old.ensures) ∙ c.in-Some.ensures.0,
  seen_write c.self.inside.places.items c.args.self.now c.self.view_is c.args.variable c.index-old.result.now c.requires
      c.index-old.ensures c.in-Some.sum (frac_value c.args.factor) c.in-Some.ensures.1,
)
