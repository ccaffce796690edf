-- Marks of the indices of the last suffix.
use Rattle.std.proofs.Common.{◌≡◌, ◌∙◌, ℕ, ◌+◌, ◌<◌, ◌≤◌, Bool, true, false, List, [], ◌∷◌, ◌++◌, length, get_or, set, Option, Some, None, inl, inr, refl, sym, ap, ap₂, subst, arith}
use Rattle.std.specs.Prelude.{slice_set, ◌||◌, ◌==◌, option_map, IsSome}
use Rattle.std.specs.Option.{option_map_or}
use Rattle.std.proofs.lemmas.List.{length_push, length-set, get_or-set_same, get_or-set_other}
use Rattle.std.proofs.lemmas.List.Folds.{list_any-append}
use Rattle.std.proofs.lemmas.Bool.{eq-eqb, ne_eqb, cases_eq, or_right}
use Rattle.exact_numbers.specs.declared.dec.Dec.{Dec}
use Rattle.sol_files.specs.declared.suffix.SolSuffix.{SolSuffix}
use Rattle.sol_files.specs.Sol.{Sol}
use Rattle.sol_files.specs.Parts.{change_last, last_of}
use Rattle.sol_files.specs.Built.{AreGiven, with_suffix, with_table_line, with_value}
use Rattle.sol_files.specs.Tests.{has_index, index_limit, last_kind, last_values}
use Rattle.nl_model.specs.SuffixKinds.{object_limit}
use Rattle.sol_files.specs.InsideHeld.{AreMarked, AwaitsSuffix}
use Rattle.sol_files.proofs.LastLemmas.{Ends, ends_with, change_last-end, last_of-end, length_changed}

-- the last one of a list that is not empty
ends_of : {A : Type 0} (xs : List A) → 0 < length xs → Ends xs
ends_of [] lt = absurd (omega arith)
ends_of (x ∷ xs) lt = ends_with x xs

pub last_of-changed : {A : Type 0} (f : A → A) (xs : List A) → 0 < length xs → last_of (change_last f xs) ≡ option_map f (last_of xs)
last_of-changed f xs lt =
    let e = ends_of xs lt in
    rw e.whole (ap last_of (change_last-end f e.front e.end) ∙ last_of-end e.front (f e.end) ∙ ap (option_map f) (sym (last_of-end e.front e.end)))

-- a part of a last suffix that was changed in other parts
part_by : {B : Type 0} (g : SolSuffix → B) (d : B) (f : SolSuffix → SolSuffix) → ((x : SolSuffix) → g (f x) ≡ g x) → (o : Option SolSuffix) → option_map_or g (option_map f o) d ≡ option_map_or g o d
part_by g d f same None = refl
part_by g d f same (Some x) = same x

-- ---- a table line more

pub table_line_kept : (s t : Sol) (m : List Bool) (left : ℕ) (line : List ℕ)
    → s ≡ record t { suffixes = change_last (with_table_line line) t.suffixes } → AwaitsSuffix t m left
    → AreGiven s × ((n : ℕ) → 0 < n → AwaitsSuffix s m n)
table_line_kept s t m left line e h =
    let given : AreGiven s = rw e (record { duals = h.given.duals; primals = h.given.primals }) in
    let last = last_of-changed (with_table_line line) t.suffixes h.marked.some in
    let kind : last_kind (change_last (with_table_line line) t.suffixes) ≡ last_kind t.suffixes =
    ap (λ o. option_map_or (λ x. x.kind) o 0) last ∙ part_by (λ s. s.kind) 0 (with_table_line line) (λ x. refl)
    (last_of t.suffixes) in
    let values : last_values (change_last (with_table_line line) t.suffixes) ≡ last_values t.suffixes =
    ap (λ o. option_map_or (λ x. x.values) o []) last ∙ part_by (λ s. s.values) [] (with_table_line line) (λ x. refl)
    (last_of t.suffixes) in
    let limit : index_limit s ≡ index_limit t = ap index_limit e ∙ ap (object_limit t.n_var t.n_con 256) kind in
    let same : last_values s.suffixes ≡ last_values t.suffixes = ap (λ (x : Sol). last_values x.suffixes) e ∙ values in
    let some : length s.suffixes ≡ length t.suffixes = ap (λ (x : Sol). length x.suffixes) e ∙ length_changed (with_table_line line) t.suffixes in
    let marked : AreMarked s m = record { some = omega (arith, some, h.marked.some); room = omega (arith, limit, h.marked.room); each = λ i lt. rw same (h.marked.each i (omega arith)) } in
    (given, λ n lt. record { some = lt; given = given; marked = marked })

-- ---- a value more

index_more : (values : List (ℕ × Dec)) (t : ℕ × Dec) (i : ℕ) → has_index (values ++ t ∷ []) i ≡ (has_index values i || ((t.0 == i) || false))
index_more values t i = list_any-append (λ (x : ℕ × Dec). x.0 == i) values (t ∷ [])

or_false : (b : Bool) → (b || false) ≡ b
or_false true = refl
or_false false = refl

marked_more : (m : List Bool) (values : List (ℕ × Dec)) (t : ℕ × Dec) (limit : ℕ) → t.0 < length m
    → ((i : ℕ) → i < limit → get_or m i false ≡ has_index values i) → (i : ℕ) → i < limit
    → get_or (set m t.0 true) i false ≡ has_index (values ++ t ∷ []) i
marked_more m values t limit within each i lt = elim (cases_eq i t.0) [
  | inl same ↦ rw (same, index_more values t t.0, eq-eqb t.0 t.0 refl) (get_or-set_same m t.0 true false within ∙ sym (or_right (has_index values t.0) true refl))
  | inr other ↦ rw (index_more values t i, ne_eqb t.0 i (λ e. other (sym e))) (get_or-set_other m t.0 i true false other ∙ each i lt ∙ sym (or_false (has_index values i)))
]

values_more_by : (pair : ℕ × Dec) (o : Option SolSuffix) → IsSome o → option_map_or (λ s. s.values) (option_map (with_value pair) o) [] ≡ option_map_or (λ s. s.values) o [] ++ pair ∷ []
values_more_by pair None h = absurd cc
values_more_by pair (Some x) h = refl

last_is : {A : Type 0} (xs : List A) → 0 < length xs → IsSome (last_of xs)
last_is xs lt = let e = ends_of xs lt in subst IsSome (sym (ap last_of e.whole ∙ last_of-end e.front e.end)) refl

pub value_kept : (s t : Sol) (m m' : List Bool) (left : ℕ) (pair : ℕ × Dec)
    → s ≡ record t { suffixes = change_last (with_value pair) t.suffixes } → m' ≡ slice_set m pair.0 true
    → pair.0 < index_limit t → AwaitsSuffix t m left → AreGiven s × ((n : ℕ) → 0 < n → AwaitsSuffix s m' n)
value_kept s t m m' left pair e f below h =
    let given : AreGiven s = rw e (record { duals = h.given.duals; primals = h.given.primals }) in
    let last = last_of-changed (with_value pair) t.suffixes h.marked.some in
    let kind : last_kind (change_last (with_value pair) t.suffixes) ≡ last_kind t.suffixes =
    ap (λ o. option_map_or (λ x. x.kind) o 0) last ∙ part_by (λ s. s.kind) 0 (with_value pair) (λ x. refl)
    (last_of t.suffixes) in
    let values : last_values (change_last (with_value pair) t.suffixes) ≡ last_values t.suffixes ++ pair ∷ [] =
    ap (λ o. option_map_or (λ x. x.values) o []) last ∙ values_more_by pair (last_of t.suffixes)
    (last_is t.suffixes h.marked.some) in
    let limit : index_limit s ≡ index_limit t = ap index_limit e ∙ ap (object_limit t.n_var t.n_con 256) kind in
    let same : last_values s.suffixes ≡ last_values t.suffixes ++ pair ∷ [] = ap (λ (x : Sol). last_values x.suffixes) e ∙ values in
    let some : length s.suffixes ≡ length t.suffixes = ap (λ (x : Sol). length x.suffixes) e ∙ length_changed (with_value pair) t.suffixes in
    let marks : length m' ≡ length m = ap length f ∙ length-set m pair.0 true in
    let marked : AreMarked s m' = record {
      some = omega (arith, some, h.marked.some);
      room = omega (arith, limit, marks, h.marked.room);
      each = λ i lt. rw (same, f) (marked_more m (last_values t.suffixes) pair (index_limit t) (omega (arith, below, h.marked.room)) h.marked.each i (omega arith));
    } in
    (given, λ n lt. record { some = lt; given = given; marked = marked })

-- ---- a suffix more

pub suffix_kept : (s t : Sol) (m : List Bool) (x : SolSuffix) (limit v n : ℕ) → s ≡ with_suffix t x → AreGiven t
    → x.values ≡ [] → limit ≡ object_limit v n 256 x.kind → v ≡ t.n_var → n ≡ t.n_con → limit ≤ length m
    → ((i : ℕ) → get_or m i false ≡ false) → AreGiven s × ((n : ℕ) → 0 < n → AwaitsSuffix s m n)
suffix_kept s t m x limit v n e h empty is var con room none =
    let given : AreGiven s = rw e (record { duals = h.duals; primals = h.primals }) in
    let last = last_of-end t.suffixes x in
    let kind : last_kind (t.suffixes ++ x ∷ []) ≡ x.kind = ap (λ o. option_map_or (λ y. y.kind) o 0) last in
    let values : last_values (t.suffixes ++ x ∷ []) ≡ [] = ap (λ o. option_map_or (λ y. y.values) o []) last ∙ empty in
    let of : index_limit s ≡ limit = ap index_limit e ∙ ap (object_limit t.n_var t.n_con 256) kind ∙ ap₂ (λ a b. object_limit a b 256 x.kind) (sym var) (sym con) ∙ sym is in
    let same : last_values s.suffixes ≡ [] = ap (λ (y : Sol). last_values y.suffixes) e ∙ values in
    let some : length s.suffixes ≡ length t.suffixes + 1 = ap (λ (y : Sol). length y.suffixes) e ∙ length_push t.suffixes x in
    let marked : AreMarked s m = record { some = omega arith; room = omega arith; each = λ i lt. rw same (none i) } in
    (given, λ k lt. record { some = lt; given = given; marked = marked })
