-- What the loops over rows, columns and bounds have still to do.
use Rattle.std.proofs.Common.{◌≡◌, ◌≢◌, ℕ, suc, ◌+◌, ◌<◌, ◌≤◌, ◌∙◌, sym, ap, ap₂, refl, subst, arith, Bool, true, false}
use Rattle.std.proofs.Common.{cond, nat_eq, ◌&&◌, ◌||◌, List, [], ◌∷◌, length, get_or, map, drop, set, Option, Some}
use Rattle.std.proofs.Common.{None, All, add-one}
use Rattle.std.proofs.Math.Seq.{drop-cons}
use Rattle.std.proofs.Math.ListN.{drop_of_length-le}
use Rattle.std.proofs.lemmas.Bool.{eqb-true}
use Rattle.std.proofs.lemmas.Bool.Decides.{nat_tests}
use Rattle.std.proofs.lemmas.List.{get_or-set_same, get_or-set_other, get_or_default}
use Rattle.std.specs.Option.{option_or}
use Rattle.exact_numbers.specs.declared.dec.Dec.{Dec}
use Rattle.exact_numbers.specs.Values.{dec_value}
use Rattle.mps_model.specs.Built.{entry_of}
use Rattle.mps_model.specs.Mps.{MpsRow, Entry, Bound, at_row, bound_with, Side, Unset, SetSides, sets, first_side, first_sides, sides_set, makes_whole, has_whole_record, objective_row}
use Rattle.mps_model.specs.declared.kinds.BoundKind.{BoundKind}
use Rattle.mps_model.specs.declared.kinds.RowKind.{RowKind}
use Rattle.mps_model.specs.declared.kinds.RowKind.TheVariants.{N}
use Rattle.mps_program.specs.declared.columns.ColumnSides.{ColumnSides}
use Rattle.mps_program.specs.InsideColumns.{none_set, side_value, sides_value, with_sets}
use Rattle.mps_program.specs.Program.{is_bounded_kind, is_constraint}

module _ {A : Type 0} (xs : List A) (k : ℕ) (t : A) (lt : k < length xs) (is : t ≡ get_or xs k t) where
  pub drop_is : drop k xs ≡ t ∷ drop (k + 1) xs
  drop_is = drop-cons xs k t lt ∙ ap₂ (λ y n. y ∷ drop n xs) (sym is) (sym (add-one k))

  -- a fact of all is one of the one that was read
  pub fact_is : (P : A → Type 0) → All P xs → P t
  fact_is P h = subst P (sym is) (h k t lt)

pub drop_all : {A : Type 0} (xs : List A) (k : ℕ) → length xs ≤ k → drop k xs ≡ []
drop_all xs k h = drop_of_length-le xs h

pub not_eq : (a b : ℕ) → nat_eq a b ≡ false → b ≢ a
not_eq a b e same = grind (arith, nat_tests)

-- ---- the number of a row
module _ (given : List (ℕ × Dec)) (k row : ℕ) (t : ℕ × Dec) (lt : k < length given) (is : t ≡ get_or given k t) where
  at_step : at_row row (map entry_of (drop k given)) ≡ cond (nat_eq t.0 row) (Some t.1) (at_row row (map entry_of (drop (k + 1) given)))
  unfolding at_row
  at_step = ap (λ ts. at_row row (map entry_of ts)) (drop_is given k t lt is)

  pub at_hit : nat_eq t.0 row ≡ true → Some t.1 ≡ at_row row (map entry_of (drop k given))
  at_hit e = sym (at_step ∙ ap (λ b. cond b (Some t.1) (at_row row (map entry_of (drop (k + 1) given)))) e)

  pub at_miss : nat_eq t.0 row ≡ false → at_row row (map entry_of (drop (k + 1) given)) ≡ at_row row (map entry_of (drop k given))
  at_miss e = sym (at_step ∙ ap (λ b. cond b (Some t.1) (at_row row (map entry_of (drop (k + 1) given)))) e)

pub at_end : (given : List (ℕ × Dec)) (k row : ℕ) → length given ≤ k → None ≡ at_row row (map entry_of (drop k given))
unfolding at_row
at_end given k row h = sym (ap (λ ts. at_row row (map entry_of ts)) (drop_all given k h))

or_some : {A : Type 0} (o : Option A) (v : A) (p : Option A) → option_or (option_or o (Some v)) p ≡ option_or o (Some v)
or_some None v p = refl
or_some (Some x) v p = refl

bool_or_assoc : (a b c : Bool) → (a || b) || c ≡ a || (b || c)
bool_or_assoc true b c = refl
bool_or_assoc false b c = refl

pub number_kept : (xs : List (Option Dec)) (r : ℕ) (v : Dec) (old new : Option Dec) → r < length xs
    → old ≡ get_or xs r old → new ≡ option_or old (Some v) → (i : ℕ) (rest : List (Entry Dec)) → i < length xs
    → option_or (get_or (set xs r new) i None) (at_row i rest)
    ≡ option_or (get_or xs i None) (at_row {V = Dec} i (record { row = r; value = v } ∷ rest))
unfolding at_row
number_kept xs r v old new lt is made i rest within = by (nat_eq r i) refl
  where
    by : (b : Bool) → nat_eq r i ≡ b → option_or (get_or (set xs r new) i None) (at_row i rest) ≡ option_or (get_or xs i None) (cond (nat_eq r i) (Some v) (at_row i rest))
    by true e =
        let same = eqb-true r i e in
        ap (λ j. option_or (get_or (set xs r new) j None) (at_row i rest)) (sym same)
        ∙ ap (λ o. option_or o (at_row i rest)) (get_or-set_same xs r new None lt ∙ made)
        ∙ or_some old v (at_row i rest)
        ∙ ap₂ (λ o b. option_or o (cond b (Some v) (at_row i rest))) (is ∙ get_or_default xs r old None lt ∙ ap (λ j. get_or xs j None) same) (sym e)
    by false e = ap₂ (λ o b. option_or o (cond b (Some v) (at_row i rest))) (get_or-set_other xs r i new None (not_eq r i e)) (sym e)

-- ---- the records of a column
side_assoc : (a b c : Side) → first_side (first_side a b) c ≡ first_side a (first_side b c)
side_assoc Unset b c = refl
side_assoc a b c = refl

sides_assoc : (a b c : SetSides) → first_sides (first_sides a b) c ≡ first_sides a (first_sides b c)
sides_assoc a b c = ap₂ (λ l u. record { lower = l; upper = u }) (side_assoc a.lower b.lower c.lower) (side_assoc a.upper b.upper c.upper)

side_none : (a : Side) → first_side a Unset ≡ a
side_none Unset = refl
side_none a = refl

module _ (c n : ColumnSides) (k : BoundKind) (v : Dec) (sides : sides_value n ≡ first_sides (sides_value c) (sets k (dec_value v))) (whole : n.whole ≡ c.whole || makes_whole k) where
  record_here : (r j : ℕ) (rest : List (Bound Dec)) → nat_eq r j ≡ true → with_sets n j rest ≡ with_sets c j (record { kind = k; column = r; value = v } ∷ rest)
  unfolding sides_set has_whole_record
  record_here r j rest e =
      let values = map (bound_with dec_value) rest in
      let set = sides_set j values in
      let here = sets k (dec_value v) in
      ap₂ (λ s w. (s, w))
      (ap (λ s. first_sides s set) sides ∙ sides_assoc (sides_value c) here set ∙ ap (λ b. first_sides (sides_value c) (cond b (first_sides here set) set)) (sym e))
      (ap (λ b. b || has_whole_record j values) whole ∙ bool_or_assoc c.whole (makes_whole k) (has_whole_record j values)
      ∙ ap (λ b. c.whole || ((b && makes_whole k) || has_whole_record j values)) (sym e))

  record_other : (r j : ℕ) (rest : List (Bound Dec)) (d : ColumnSides) → nat_eq r j ≡ false → with_sets d j rest ≡ with_sets d j (record { kind = k; column = r; value = v } ∷ rest)
  unfolding sides_set has_whole_record
  record_other r j rest d e =
      let values = map (bound_with dec_value) rest in
      let set = sides_set j values in
      ap (λ b. (first_sides (sides_value d) (cond b (first_sides (sets k (dec_value v)) set) set), d.whole || ((b && makes_whole k) || has_whole_record j values))) (sym e)

  pub record_kept : (xs : List ColumnSides) (r : ℕ) → r < length xs → c ≡ get_or xs r c
      → (j : ℕ) (rest : List (Bound Dec)) → j < length xs → with_sets (get_or (set xs r n) j none_set) j rest
      ≡ with_sets (get_or xs j none_set) j (record { kind = k; column = r; value = v } ∷ rest)
  record_kept xs r lt is j rest within = by (nat_eq r j) refl
    where
      by : (b : Bool) → nat_eq r j ≡ b → with_sets (get_or (set xs r n) j none_set) j rest ≡ with_sets (get_or xs j none_set) j (record { kind = k; column = r; value = v } ∷ rest)
      by true e =
          let same = eqb-true r j e in
          ap (λ s. with_sets s j rest) (ap (λ i. get_or (set xs r n) i none_set) (sym same) ∙ get_or-set_same xs r n none_set lt)
          ∙ record_here r j rest e
          ∙ ap (λ s. with_sets s j (record { kind = k; column = r; value = v } ∷ rest)) (is ∙ get_or_default xs r c none_set lt ∙ ap (λ i. get_or xs i none_set) same)
      by false e =
          ap (λ s. with_sets s j rest) (get_or-set_other xs r j n none_set (not_eq r j e))
          ∙ record_other r j rest (get_or xs j none_set) e

-- without a further record, all are set
pub all_set : (c : ColumnSides) (j : ℕ) → with_sets c j [] ≡ (sides_value c, c.whole)
unfolding sides_set has_whole_record
all_set c j = λ i. (record { lower = side_none (side_value c.lower) i; upper = side_none (side_value c.upper) i }, or_false c.whole i)
  where
    or_false : (b : Bool) → b || false ≡ b
    or_false true = refl
    or_false false = refl

-- ---- the objective's row
module _ (rows : List MpsRow) (k : ℕ) (r : MpsRow) (lt : k < length rows) (is : r ≡ get_or rows k r) where
  pub row_free : is_bounded_kind r.kind ≡ false → objective_row (drop k rows) ≡ 0
  unfolding objective_row
  row_free e = ap objective_row (drop_is rows k r lt is) ∙ by r.kind refl e
    where
      by : (kind : RowKind) → r.kind ≡ kind → is_bounded_kind kind ≡ false → objective_row (r ∷ drop (k + 1) rows) ≡ 0
      by N h e = rw h refl
      by k h e = absurd (let t = e in cc)

  pub row_bounded : is_bounded_kind r.kind ≡ true → objective_row (drop k rows) ≡ suc (objective_row (drop (k + 1) rows))
  unfolding objective_row
  row_bounded e = ap objective_row (drop_is rows k r lt is) ∙ by r.kind refl e
    where
      by : (kind : RowKind) → r.kind ≡ kind → is_bounded_kind kind ≡ true → objective_row (r ∷ drop (k + 1) rows) ≡ suc (objective_row (drop (k + 1) rows))
      by N h e = absurd (let t = e in cc)
      by k h e = rw h refl

pub no_row_left : (rows : List MpsRow) (k : ℕ) → length rows ≤ k → objective_row (drop k rows) ≡ 0
unfolding objective_row
no_row_left rows k h = ap objective_row (drop_all rows k h)

-- the objective's row is no constraint
pub objective_free : (rows : List MpsRow) → is_constraint rows (objective_row rows) ≡ false
unfolding objective_row
objective_free [] = refl
objective_free (r ∷ rows) = by r.kind refl (objective_free rows)
  where
    by : (k : RowKind) → r.kind ≡ k → is_constraint rows (objective_row rows) ≡ false → is_constraint (r ∷ rows) (objective_row (r ∷ rows)) ≡ false
    by N e more = rw e refl
    by k e more = rw e more
