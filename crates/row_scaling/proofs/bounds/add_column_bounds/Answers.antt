use Rattle.std.proofs.Common.{◌≡◌, ◌<◌, ◌∙◌, ◌++◌, ◌∷◌, [], ℕ, List, All, IfSome, ap, append_assoc, arith, length, refl, subst, sym}
use Rattle.std.proofs.lemmas.List.Elements.{All-push}
use Rattle.exact_numbers.specs.declared.dec.Dec.{Dec}
use Rattle.mps_model.specs.Built.{CanAddBound}
use Rattle.mps_model.specs.Mps.{Bound, Mps}
use Rattle.mps_model.specs.Valid.{IsOtherBound, SetOtherSides}
use Rattle.row_scaling.specs.InsideFilling.{IsZeroWithout, KindOfBound, bounds_at}
use Rattle.row_scaling.proofs.AddLemmas.{one_put, two_put}
use Rattle.row_scaling.proofs.bounds.add_column_bounds.Goals as goal

abbrev bound_in : ℕ → KindOfBound → Bound Dec
bound_in j b = record { kind = b.0; column = j; value = b.1 }

-- a first bound of a column, and a second one that sets the other side
may_bound : (m : Mps Dec) (j : ℕ) (b : KindOfBound) → j < length m.columns → All (λ b. b.column < j) m.bounds → IsZeroWithout b → CanAddBound m b.0 j b.1
may_bound m j b within before zero = record { within = within; new = λ i d l e. absurd (omega (arith, before i d l, e)); zero = zero }

may_bound_too : (m now : Mps Dec) (j : ℕ) (b c : KindOfBound)
    → now ≡ record m { bounds = m.bounds ++ bound_in j b ∷ [] } → j < length m.columns → All (λ b. b.column < j) m.bounds
    → SetOtherSides b.0 c.0 → IsZeroWithout c →
    CanAddBound now c.0 j c.1
may_bound_too m now j b c is within before apart zero =
    let new = All-push (IsOtherBound c.0 j) m.bounds (bound_in j b) (λ i d l e. absurd (omega (arith, before i d l, e))) (λ e. apart) in
    let two : CanAddBound (record m { bounds = m.bounds ++ bound_in j b ∷ [] }) c.0 j c.1 = record { within = within; new = new; zero = zero } in
    subst (λ (x : Mps Dec). CanAddBound x c.0 j c.1) (sym is) two

both_added : (m now new : Mps Dec) (b c : Bound Dec) → now ≡ record m { bounds = m.bounds ++ b ∷ [] }
    → new ≡ record now { bounds = now.bounds ++ c ∷ [] } → new ≡ record m { bounds = m.bounds ++ b ∷ c ∷ [] }
both_added m now new b c first second =
    second ∙ ap (λ (x : Mps Dec). record x { bounds = x.bounds ++ c ∷ [] }) first ∙ ap (λ (bs : List (Bound Dec)). record m { bounds = bs }) (append_assoc m.bounds (b ∷ []) (c ∷ []))

only_bounds : (m new : Mps Dec) (bs : List (Bound Dec)) → new ≡ record m { bounds = bs } → new ≡ record m { bounds = new.bounds }
only_bounds m new bs e = e ∙ ap (λ (bs : List (Bound Dec)). record m { bounds = bs }) (sym (ap (λ (x : Mps Dec). x.bounds) e))

pub add_bound-requires : goal.add_bound-requires
add_bound-requires c = may_bound c.args.builder.now c.args.j c.side_bounds-bounds.result.0 c.requires.within c.requires.before c.side_bounds-bounds.ensures.zero

pub add_bound-requires-2 : goal.add_bound-requires-2
add_bound-requires-2 c =
    let first = c.side_bounds-bounds.result.0 in
    let of = c.side_bounds-bounds.ensures in
    may_bound_too c.args.builder.now c.add_bound.new.self c.args.j first (c.in-Some.kind, c.in-Some.value) c.in_ok-add_bound.ensures.ok c.requires.within c.requires.before
    (subst (λ o. IfSome o (λ (b : KindOfBound). SetOtherSides first.0 b.0)) c.in-Some.is of.apart) (subst (λ o. IfSome o IsZeroWithout) c.in-Some.is of.zero_too)

pub returns-in_default-clause-added : goal.returns-in_default-clause-added
returns-in_default-clause-added c =
    let first = c.side_bounds-bounds.result.0 in
    one_put c.args.j c.args.builder.now.bounds c.add_bound.new.self.bounds (bound_in c.args.j first) _ (ap (λ m. m.bounds) c.in_ok-add_bound.ensures.ok) refl
    (ap (bounds_at c.args.j first) (sym c.in_default.is) ∙ c.side_bounds-bounds.ensures.records c.args.j) c.requires.before

pub returns-clause-added : goal.returns-clause-added
returns-clause-added c =
    let first = c.side_bounds-bounds.result.0 in
    let both = both_added c.args.builder.now c.add_bound.new.self c.add_bound-2.new.self (bound_in c.args.j first)
    (bound_in c.args.j (c.in-Some.kind, c.in-Some.value)) c.in_ok-add_bound.ensures.ok c.in_ok-add_bound-2.ensures.ok
    in
    two_put c.args.j c.args.builder.now.bounds c.add_bound-2.new.self.bounds (bound_in c.args.j first) (bound_in c.args.j (c.in-Some.kind, c.in-Some.value)) _ (ap (λ m. m.bounds) both) refl refl
    (ap (bounds_at c.args.j first) (sym c.in-Some.is) ∙ c.side_bounds-bounds.ensures.records c.args.j) c.requires.before

pub returns-clause-only : goal.returns-clause-only
returns-clause-only c =
    only_bounds c.args.builder.now c.add_bound-2.new.self _
    (both_added c.args.builder.now c.add_bound.new.self c.add_bound-2.new.self
    (bound_in c.args.j c.side_bounds-bounds.result.0) (bound_in c.args.j (c.in-Some.kind, c.in-Some.value))
    c.in_ok-add_bound.ensures.ok c.in_ok-add_bound-2.ensures.ok)
