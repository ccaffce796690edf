use Rattle.std.proofs.Common.{◌<◌, length, sym, subst}
use Rattle.linear_program.specs.Places.{AreMarked}
use Rattle.linear_program.proofs.PlaceLemmas.{new_mark}
use Rattle.linear_program.proofs.marked_places.MarkedPlaces.put.Goals as goal

pub invariant_of-self-2 : goal.invariant_of-self-2
invariant_of-self-2 c =
    subst (AreMarked _) (sym c.in_ok-push.ensures.items)
    (new_mark c.self.inside.places.items c.args.variable c.args.factor (subst (λ l. c.args.variable < length l) (sym c.self.view_is) c.requires) c.self.inside.touched.items c.self.invariant)
