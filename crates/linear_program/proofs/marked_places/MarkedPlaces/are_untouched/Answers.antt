use Rattle.std.proofs.Common.{◌≡◌, ◌∙◌, ℕ, List, [], ◌∷◌, refl, sym, subst, arith, length, vec_len}
use Rattle.std.proofs.lemmas.Bool.{eqb-true}
use Rattle.linear_program.specs.Places.{AreZeros}
use Rattle.linear_program.proofs.PlaceLemmas.{untouched}
use Rattle.linear_program.proofs.marked_places.MarkedPlaces.are_untouched.Goals as goal

pub returns : goal.returns
returns c e =
    let none = eqb-true (vec_len c.self.inside.touched) 0 (sym c.is_empty.ensures ∙ e) in
    subst AreZeros c.self.view_is (untouched c.self.inside.places.items c.self.inside.touched.items
    (no_length c.self.inside.touched.items (omega (arith, none, c.self.inside.touched.ok.0))) c.self.invariant)
  where
    no_length : (xs : List ℕ) → length xs ≡ 0 → xs ≡ []
    no_length [] e = refl
    no_length (x ∷ xs) e = absurd (omega arith)
