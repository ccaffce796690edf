use Rattle.std.proofs.Common.{◌≡◌, ℕ, List, [], ◌∷◌, refl, ◌∙◌, arith, length}
use Rattle.std.proofs.lemmas.List.{length-set}
use Rattle.linear_program.proofs.PlaceLemmas.{one_less, touched_within, untouched}
use Rattle.linear_program.proofs.marked_places.MarkedPlaces.clear.Goals as goal

pub index_mut-requires : goal.index_mut-requires
index_mut-requires c =
    let h = touched_within c.touched.self-inside.places.items c.touched.self-inside.touched.items c.pop.new.self.items c.in-Some.variable c.in-Some.ensures.items c.touched.invariant.marked in
    omega (arith, c.touched.self-inside.places.ok.0)

pub touched-preserved : goal.touched-preserved
touched-preserved c =
    let h = touched_within c.touched.self-inside.places.items c.touched.self-inside.touched.items c.pop.new.self.items c.in-Some.variable c.in-Some.ensures.items c.touched.invariant.marked in
    record {
      marked = one_less c.touched.self-inside.places.items c.in-Some.variable c.zero.result h
          c.touched.self-inside.touched.items c.pop.new.self.items c.in-Some.ensures.items c.zero.ensures
          c.touched.invariant.marked;
      count = length-set c.touched.self-inside.places.items c.in-Some.variable c.zero.result ∙ c.touched.invariant.count;
    }

pub returns-clause-zeros : goal.returns-clause-zeros
returns-clause-zeros c =
    untouched c.touched.self-inside.places.items c.touched.self-inside.touched.items
    (no_length c.touched.self-inside.touched.items (let h = c.in_default.ensures.cases.0 in
    omega (arith, c.touched.self-inside.touched.ok.0))) c.touched.invariant.marked
  where
    no_length : (xs : List ℕ) → length xs ≡ 0 → xs ≡ []
    no_length [] e = refl
    no_length (x ∷ xs) e = absurd (omega arith)
