-- The terms of the constraints and of the objective: how many there are, and those that are still to come.
use Rattle.std.proofs.Common.{◌≡◌, ℕ, zero, suc, ◌+◌, ◌<◌, ◌≤◌, ◌^◌, ◌∙◌, sym, ap, ap₂, refl, subst, arith, Bool, true}
use Rattle.std.proofs.Common.{false, cond, not, nat_eq, nat_lt, ◌&&◌, ◌||◌, if◌then◌else◌, List, [], ◌∷◌, ◌++◌, length}
use Rattle.std.proofs.Common.{get_or, map, drop, set, replicate, Some, None, ⊎_elim, add-one, append_assoc, append-nil}
use Rattle.std.proofs.lemmas.Bool.{cases_lt, eqb-true, eq-eqb, ne_eqb, ltb-false, or_parts}
use Rattle.std.proofs.lemmas.List.{length-append, length-map, length-set, get_or-map, get_or-set_same, get_or-set_other, get_or-replicate, get_or_past, ext_get_or, length-replicate}
use Rattle.std.proofs.lemmas.List.Sums.{sum_by-cons}
use Rattle.std.specs.List.{sum_by, filter_map, cons_option}
use Rattle.exact_numbers.specs.declared.dec.Dec.{Dec}
use Rattle.nl_model.specs.Draft.{Draft}
use Rattle.nl_model.specs.File.{Term}
use Rattle.nl_model.specs.Rules.{term_count, most_terms}
use Rattle.mps_model.specs.Mps.{Entry, Mps, objective_row}
use Rattle.mps_import.specs.declared.rows.RowUse.{RowUse}
use Rattle.mps_import.specs.declared.rows.RowUse.TheVariants.{Unused, Objective, Constraint}
use Rattle.mps_import.specs.Faults.{is_too_large}
use Rattle.mps_program.specs.Program.{is_constraint, constraints}
use Rattle.mps_program.specs.Terms.{is_zero_dec, term_of}
use Rattle.mps_import.specs.Import.{entries_at, terms_from, row_terms, constraint_terms, objective_terms, import_counts}
use Rattle.mps_program.specs.Places.{listed, one_if}
use Rattle.mps_import.specs.InsideUses.{rank, use_of, is_hit, hits, hits_in, is_constraint_use, is_objective_use}
use Rattle.mps_import.specs.InsideUses.{is_constraint_at, is_objective_at, terms_left, entries_left, IsOnItsWay}
use Rattle.mps_import.specs.InsideUses.{CanAddTerm, with_term}
use Rattle.mps_import.specs.Variables.{order_of_columns}
use Rattle.mps_program.proofs.FirstLemmas.{listed_at, listed_length, place_at, before_at, before_end}
use Rattle.mps_program.proofs.OnceLemmas.{sum_more, sum_none, term_more, past_rows, once_or_not}
use Rattle.mps_program.proofs.LoopLemmas.{drop_is, drop_all, objective_free}
use Rattle.mps_program.proofs.PlaceLemmas.{all_places, not_both_ways}

-- ---- sums
module _ {A : Type 0} where
  sum_through : {B : Type 0} (f : B → ℕ) (g : A → B) (xs : List A) → sum_by f (map g xs) ≡ sum_by (λ x. f (g x)) xs
  sum_through f g [] = refl
  sum_through f g (x ∷ xs) = sum_by-cons f (g x) (map g xs) ∙ ap (λ n. f (g x) + n) (sum_through f g xs) ∙ sym (sum_by-cons (λ x. f (g x)) x xs)

-- ---- how many terms there are
pub hits_in_same : (s t : ℕ → Bool) → ((i : ℕ) → s i ≡ t i) → (m : Mps Dec) (js : List ℕ) → hits_in s m js ≡ hits_in t m js
hits_in_same s t h m js = λ k. hits_in (λ i. h i k) m js

module _ (m : Mps Dec) where
  abbrev test : ℕ → Bool
  test = is_constraint m.rows

  abbrev obj : ℕ
  obj = objective_row m.rows

  column_count : (p : ℕ) (es : List (Entry Dec)) → sum_by (λ i. length (filter_map (term_of i p) es)) (constraints m.rows) ≡ hits test es
  column_count p [] = sum_none (λ i. 0) (λ i. refl) (constraints m.rows)
  column_count p (e ∷ es) =
      sum_more (λ i. length (filter_map (term_of i p) (e ∷ es)))
      (λ i. one_if (nat_eq e.row i && not (is_zero_dec e.value))) (λ i. length (filter_map (term_of i p) es))
      (λ i. term_more (p, e.value) (nat_eq e.row i && not (is_zero_dec e.value)) (filter_map (term_of i p) es))
      (constraints m.rows)
      ∙ ap₂ ◌+◌ (once_or_not m.rows e.row (not (is_zero_dec e.value))) (column_count p es)
      ∙ sym (sum_by-cons (λ e. one_if (is_hit test e)) e es)

  columns_count : (p : ℕ) (js : List ℕ) → sum_by (λ i. length (terms_from m i p js)) (constraints m.rows) ≡ hits_in test m js
  unfolding terms_from
  columns_count p [] = sum_none (λ i. 0) (λ i. refl) (constraints m.rows)
  columns_count p (j ∷ js) =
      sum_more (λ i. length (terms_from m i p (j ∷ js))) (λ i. length (filter_map (term_of i p) (entries_at m j)))
      (λ i. length (terms_from m i (suc p) js)) (λ i. length-append (filter_map (term_of i p) (entries_at m j))
      (terms_from m i (suc p) js)) (constraints m.rows)
      ∙ ap₂ ◌+◌ (column_count p (entries_at m j)) (columns_count (suc p) js)
      ∙ sym (sum_by-cons (λ j. hits test (entries_at m j)) j js)

  pub all_constraint_terms : hits_in test m (order_of_columns m) ≡ term_count (constraint_terms m)
  unfolding row_terms
  all_constraint_terms = sym (sum_through length (row_terms m) (constraints m.rows) ∙ columns_count 0 (order_of_columns m))

  row_column_count : (o p : ℕ) (es : List (Entry Dec)) → length (filter_map (term_of o p) es) ≡ hits (λ i. nat_eq i o) es
  row_column_count o p [] = refl
  row_column_count o p (e ∷ es) =
      term_more (p, e.value) (nat_eq e.row o && not (is_zero_dec e.value)) (filter_map (term_of o p) es)
      ∙ ap (λ n. one_if (nat_eq e.row o && not (is_zero_dec e.value)) + n) (row_column_count o p es)
      ∙ sym (sum_by-cons (λ e. one_if (is_hit (λ i. nat_eq i o) e)) e es)

  row_count : (o p : ℕ) (js : List ℕ) → length (terms_from m o p js) ≡ hits_in (λ i. nat_eq i o) m js
  unfolding terms_from
  row_count o p [] = refl
  row_count o p (j ∷ js) =
      length-append (filter_map (term_of o p) (entries_at m j)) (terms_from m o (suc p) js)
      ∙ ap₂ ◌+◌ (row_column_count o p (entries_at m j)) (row_count o (suc p) js)
      ∙ sym (sum_by-cons (λ j. hits (λ i. nat_eq i o) (entries_at m j)) j js)

  pub all_objective_terms : hits_in (λ i. nat_eq i obj) m (order_of_columns m) ≡ length (objective_terms m)
  unfolding row_terms
  all_objective_terms = sym (row_count obj 0 (order_of_columns m))

  -- ---- what the rows are
  constraint_is : (r : ℕ) → is_constraint_use (use_of m.rows r) ≡ test r
  constraint_is r = by (test r) (nat_eq r obj)
    where
      by : (a b : Bool) → is_constraint_use (cond a (Constraint (rank m.rows r)) (cond b Objective Unused)) ≡ a
      by true b = refl
      by false true = refl
      by false false = refl

  objective_is : (r : ℕ) → is_objective_use (use_of m.rows r) ≡ nat_eq r obj
  objective_is r = by (test r) (nat_eq r obj) refl refl
    where
      by : (a b : Bool) → test r ≡ a → nat_eq r obj ≡ b → is_objective_use (cond a (Constraint (rank m.rows r)) (cond b Objective Unused)) ≡ b
      by true true e f = absurd (not_both_ways (test r) e (ap test (eqb-true r obj f) ∙ objective_free m.rows))
      by true false e f = refl
      by false true e f = refl
      by false false e f = refl

  module _ (uses : List RowUse) (are : uses ≡ listed (use_of m.rows) (length m.rows)) where
    pub use_at : (r : ℕ) (d : RowUse) → r < length m.rows → get_or uses r d ≡ use_of m.rows r
    use_at r d lt = ap (λ us. get_or us r d) are ∙ listed_at (use_of m.rows) (length m.rows) r d lt

    pub use_count : length uses ≡ length m.rows
    use_count = ap length are ∙ listed_length (use_of m.rows) (length m.rows)

    use_past : (r : ℕ) → length m.rows ≤ r → get_or uses r Unused ≡ Unused
    use_past r h = get_or_past uses r Unused (omega (arith, use_count, h))

    pub constraint_at : (r : ℕ) → is_constraint_at uses r ≡ test r
    constraint_at r =
        ⊎_elim
        (λ (lt : r < length m.rows). ap is_constraint_use (use_at r Unused lt) ∙ constraint_is r)
        (λ (ge : length m.rows ≤ r). ap is_constraint_use (use_past r ge) ∙ sym (past_rows m.rows r ge))
        (cases_lt r (length m.rows))

    pub objective_at : obj < length m.rows → (r : ℕ) → is_objective_at uses r ≡ nat_eq r obj
    objective_at some r =
        ⊎_elim
        (λ (lt : r < length m.rows). ap is_objective_use (use_at r Unused lt) ∙ objective_is r)
        (λ (ge : length m.rows ≤ r). ap is_objective_use (use_past r ge) ∙ sym (ne_eqb r obj (λ same. omega (arith, same, ge, some))))
        (cases_lt r (length m.rows))

  -- ---- constraints and their rows
  abbrev row : ℕ → ℕ
  row c = get_or (constraints m.rows) c 0

  row_passes : (c : ℕ) → c < length (constraints m.rows) → test (row c) ≡ true
  unfolding constraints
  row_passes c lt = all_places (λ j. test j ≡ true) test (length m.rows) (λ j h e. e) c 0 lt

  other_row : (r c : ℕ) → test r ≡ false → c < length (constraints m.rows) → nat_eq r (row c) ≡ false
  other_row r c e lt = ne_eqb r (row c) (λ same. not_both_ways (test r) (ap test same ∙ row_passes c lt) e)

  same_row : (r c : ℕ) → test r ≡ true → r < length m.rows → c < length (constraints m.rows) → nat_eq r (row c) ≡ nat_eq c (rank m.rows r)
  unfolding constraints
  same_row r c e lt within = by (nat_eq r (row c)) (nat_eq c (rank m.rows r)) refl refl
    where
      by : (a b : Bool) → nat_eq r (row c) ≡ a → nat_eq c (rank m.rows r) ≡ b → nat_eq r (row c) ≡ nat_eq c (rank m.rows r)
      by true true p q = p ∙ sym q
      by false false p q = p ∙ sym q
      by true false p q = absurd (not_both_ways (nat_eq c (rank m.rows r)) (eq-eqb c (rank m.rows r) (sym (before_at test (length m.rows) c within) ∙ ap (rank m.rows) (sym (eqb-true r (row c) p)))) q)
      by false true p q = absurd (not_both_ways (nat_eq r (row c)) (eq-eqb r (row c) (sym (place_at test (length m.rows) r lt e) ∙ ap row (sym (eqb-true c (rank m.rows r) q)))) p)

  rank_below : (r : ℕ) → test r ≡ true → r < length m.rows → rank m.rows r < length (constraints m.rows)
  unfolding constraints
  rank_below r e lt = before_end test (length m.rows) r lt e

  -- ---- a term more
  abbrev added : Bool → Term → List Term → List Term
  added b t xs = cond b (xs ++ t ∷ []) xs

  moved : (b : Bool) (t : Term) (xs tail rest total : List Term) → xs ++ (cons_option (if b then Some t else None) tail ++ rest) ≡ total → added b t xs ++ (tail ++ rest) ≡ total
  moved true t xs tail rest total e = append_assoc xs (t ∷ []) (tail ++ rest) ∙ e
  moved false t xs tail rest total e = e

  -- each list of the new draft has the term where the entry is in its row
  record IsWith (d n : Draft) (r : ℕ) (t : Term) : Type 0 where
    counts : n.counts ≡ d.counts
    rows : length n.terms ≡ length d.terms
    costs : length n.slopes ≡ length d.slopes
    terms : (c : ℕ) → c < length (constraints m.rows) → get_or n.terms c [] ≡ added (nat_eq r (row c)) t (get_or d.terms c [])
    slopes : get_or n.slopes 0 [] ≡ added (nat_eq r obj) t (get_or d.slopes 0 [])

  with_constraint : (d : Draft) (r p : ℕ) (v : Dec) → test r ≡ true → r < length m.rows
      → length d.terms ≡ length (constraints m.rows) → IsWith d (with_term (Constraint (rank m.rows r)) p v d) r (p, v)
  with_constraint d r p v e lt size =
      record {
        counts = refl;
        rows = length-set d.terms k (get_or d.terms k [] ++ (p, v) ∷ []);
        costs = refl;
        terms = λ c within. by c within (nat_eq c k) refl;
        slopes = ap (λ b. added b (p, v) (get_or d.slopes 0 [])) (sym not_objective);
      }
    where
      k : ℕ
      k = rank m.rows r

      not_objective : nat_eq r obj ≡ false
      not_objective = sym (objective_is r) ∙ ap (λ b. is_objective_use (cond b (Constraint (rank m.rows r)) (cond (nat_eq r obj) Objective Unused))) e

      by : (c : ℕ) → c < length (constraints m.rows) → (b : Bool) → nat_eq c k ≡ b
          → get_or (set d.terms k (get_or d.terms k [] ++ (p, v) ∷ [])) c []
          ≡ added (nat_eq r (row c)) (p, v) (get_or d.terms c [])
      by c within true q =
          let same = eqb-true c k q in
          ap (λ i. get_or (set d.terms k (get_or d.terms k [] ++ (p, v) ∷ [])) i []) same
          ∙ get_or-set_same d.terms k (get_or d.terms k [] ++ (p, v) ∷ []) [] (omega (arith, rank_below r e lt, size))
          ∙ ap (λ i. get_or d.terms i [] ++ (p, v) ∷ []) (sym same)
          ∙ ap (λ b. added b (p, v) (get_or d.terms c [])) (sym (same_row r c e lt within ∙ q))
      by c within false q =
          get_or-set_other d.terms k c (get_or d.terms k [] ++ (p, v) ∷ []) [] (λ s. not_both_ways (nat_eq c k) (eq-eqb c k s) q)
          ∙ ap (λ b. added b (p, v) (get_or d.terms c [])) (sym (same_row r c e lt within ∙ q))

  with_objective : (d : Draft) (r p : ℕ) (v : Dec) → test r ≡ false → nat_eq r obj ≡ true → length d.slopes ≡ 1 → IsWith d (with_term Objective p v d) r (p, v)
  with_objective d r p v e f size =
      record {
        counts = refl;
        rows = refl;
        costs = length-set d.slopes 0 (get_or d.slopes 0 [] ++ (p, v) ∷ []);
        terms = λ c within. ap (λ b. added b (p, v) (get_or d.terms c [])) (sym (other_row r c e within));
        slopes = get_or-set_same d.slopes 0 (get_or d.slopes 0 [] ++ (p, v) ∷ []) [] (omega (arith, size)) ∙ ap (λ b. added b (p, v) (get_or d.slopes 0 [])) (sym f);
      }

  with_unused : (d : Draft) (r p : ℕ) (v : Dec) → test r ≡ false → nat_eq r obj ≡ false → IsWith d (with_term Unused p v d) r (p, v)
  with_unused d r p v e f =
      record {
        counts = refl;
        rows = refl;
        costs = refl;
        terms = λ c within. ap (λ b. added b (p, v) (get_or d.terms c [])) (sym (other_row r c e within));
        slopes = ap (λ b. added b (p, v) (get_or d.slopes 0 [])) (sym f);
      }

  with_use : (d : Draft) (r p : ℕ) (v : Dec) → r < length m.rows → length d.terms ≡ length (constraints m.rows) → length d.slopes ≡ 1 → IsWith d (with_term (use_of m.rows r) p v d) r (p, v)
  with_use d r p v lt rows costs = by (test r) (nat_eq r obj) refl refl
    where
      by : (a b : Bool) → test r ≡ a → nat_eq r obj ≡ b → IsWith d (with_term (cond a (Constraint (rank m.rows r)) (cond b Objective Unused)) p v d) r (p, v)
      by true b e f = with_constraint d r p v e lt rows
      by false true e f = with_objective d r p v e f costs
      by false false e f = with_unused d r p v e f

  -- an entry that is 0 is no term
  skipped : (b : Bool) (t : Term) (tail : List Term) (z : Bool) → z ≡ true → cons_option (if b && not z then Some t else None) tail ≡ tail
  skipped true t tail true e = refl
  skipped false t tail true e = refl
  skipped b t tail false e = let r = e in cc

  module _ (p : ℕ) (e : Entry Dec) (es : List (Entry Dec)) (js : List ℕ) (d : Draft) (way : IsOnItsWay m (entries_left m p (e ∷ es) js) d) where
    pub zero_passed : is_zero_dec e.value ≡ true → IsOnItsWay m (entries_left m p es js) d
    zero_passed z = subst (λ left. IsOnItsWay m left d) (λ k i. skipped (nat_eq e.row i) (p, e.value) (filter_map (term_of i p) es) (is_zero_dec e.value) z k ++ terms_from m i (suc p) js) way

    one_term : (i : ℕ) → is_zero_dec e.value ≡ false → (xs total : List Term)
        → xs ++ entries_left m p (e ∷ es) js i ≡ total → added (nat_eq e.row i) (p, e.value) xs
        ++ entries_left m p es js i ≡ total
    one_term i z xs total h =
        moved (nat_eq e.row i) (p, e.value) xs (filter_map (term_of i p) es) (terms_from m i (suc p) js) total
        (ap (λ b. xs ++ (cons_option (if b then Some (p, e.value) else None) (filter_map (term_of i p) es) ++ terms_from m i (suc p) js)) (sym (and_not (nat_eq e.row i) (is_zero_dec e.value) z)) ∙ h)
      where
        and_not : (a z : Bool) → z ≡ false → (a && not z) ≡ a
        and_not true false e = refl
        and_not false false e = refl
        and_not a true e = let r = e in cc

    term_passed : (n : Draft) → is_zero_dec e.value ≡ false → IsWith d n e.row (p, e.value) → IsOnItsWay m (entries_left m p es js) n
    term_passed n z w =
        record {
          counts = w.counts ∙ way.counts;
          rows = w.rows ∙ way.rows;
          costs = w.costs ∙ way.costs;
          terms = λ c within. ap (λ xs. xs ++ entries_left m p es js (row c)) (w.terms c within) ∙ one_term (row c) z (get_or d.terms c []) (row_terms m (row c)) (way.terms c within);
          slopes = ap (λ xs. xs ++ entries_left m p es js obj) w.slopes ∙ one_term obj z (get_or d.slopes 0 []) (objective_terms m) way.slopes;
        }

    -- with what the entry adds
    pub entry_passed : (u : RowUse) → u ≡ use_of m.rows e.row → e.row < length m.rows → IsOnItsWay m (entries_left m p es js) (cond (is_zero_dec e.value) d (with_term u p e.value d))
    entry_passed u same lt = by (is_zero_dec e.value) refl
      where
        by : (z : Bool) → is_zero_dec e.value ≡ z → IsOnItsWay m (entries_left m p es js) (cond z d (with_term u p e.value d))
        by true z = zero_passed z
        by false z = subst (λ w. IsOnItsWay m (entries_left m p es js) (with_term w p e.value d)) (sym same)
            (term_passed (with_term (use_of m.rows e.row) p e.value d) z
            (with_use d e.row p e.value lt way.rows way.costs))

  -- ---- there is room for a term
  pub few_terms : is_too_large m ≡ false → term_count (constraint_terms m) + length (objective_terms m) ≤ most_terms
  unfolding is_too_large
  few_terms e = ltb-false (2 ^ 22) (term_count (constraint_terms m) + length (objective_terms m)) (or_parts (nat_lt (2 ^ 20) (length (constraints m.rows)) || nat_lt (2 ^ 20) (length m.columns)) _ e).1

-- lists that are no longer than others, and one of which is shorter
sum_le : (xs ys : List (List Term)) → length xs ≡ length ys → ((c : ℕ) → c < length xs → length (get_or xs c []) ≤ length (get_or ys c [])) → term_count xs ≤ term_count ys
sum_le [] ys e h = omega arith
sum_le (x ∷ xs) [] e h = absurd (omega (arith, e))
sum_le (x ∷ xs) (y ∷ ys) e h = omega (arith, sum_by-cons length x xs, sum_by-cons length y ys, h 0 (omega arith), sum_le xs ys (omega (arith, e)) (λ c lt. h (suc c) (omega (arith, lt))))

sum_lt : (xs ys : List (List Term)) (k : ℕ) → length xs ≡ length ys
    → ((c : ℕ) → c < length xs → length (get_or xs c []) ≤ length (get_or ys c [])) → k < length xs
    → length (get_or xs k []) < length (get_or ys k []) → term_count xs < term_count ys
sum_lt [] ys k e h lt less = absurd (omega (arith, lt))
sum_lt (x ∷ xs) [] k e h lt less = absurd (omega (arith, e))
sum_lt (x ∷ xs) (y ∷ ys) zero e h lt less = omega (arith, sum_by-cons length x xs, sum_by-cons length y ys, less, sum_le xs ys (omega (arith, e)) (λ c lt. h (suc c) (omega (arith, lt))))
sum_lt (x ∷ xs) (y ∷ ys) (suc k) e h lt less = omega (
  arith,
  sum_by-cons length x xs,
  sum_by-cons length y ys,
  h 0 (omega arith),
  sum_lt xs ys k (omega (arith, e)) (λ c lt. h (suc c) (omega (arith, lt))) (omega (arith, lt))
      less,
)

module _ (m : Mps Dec) (clean : is_too_large m ≡ false) (p : ℕ) (e : Entry Dec) (es : List (Entry Dec)) (js : List ℕ)
    (d : Draft) (way : IsOnItsWay m (entries_left m p (e ∷ es) js) d) (z : is_zero_dec e.value ≡ false)
    (lt : e.row < length m.rows) where
  least : (b : Bool) → nat_eq e.row e.row ≡ b → (xs total : List Term) (i : ℕ) → nat_eq e.row i ≡ true → xs ++ entries_left m p (e ∷ es) js i ≡ total → length xs < length total
  least b s xs total i f h =
      let g = ap length h in
      let tail = filter_map (term_of i p) es in
      let rest = terms_from m i (suc p) js in
      let some : length (entries_left m p (e ∷ es) js i) ≡ suc (length (tail ++ rest)) = ap₂ (λ a c. length (cons_option (if a && not c then Some (p, e.value) else None) tail ++ rest)) f z in
      omega (arith, g, some, length-append xs (entries_left m p (e ∷ es) js i))

  no_more : (c : ℕ) → c < length d.terms → length (get_or d.terms c []) ≤ length (get_or (constraint_terms m) c [])
  no_more c within =
      let inside : c < length (constraints m.rows) = omega (arith, within, way.rows) in
      omega (
        arith,
        ap length (way.terms c inside),
        length-append (get_or d.terms c [])
            (entries_left m p (e ∷ es) js (get_or (constraints m.rows) c 0)),
        ap length (get_or-map (row_terms m) (constraints m.rows) c 0 [] inside),
      )

  room_for : is_constraint m.rows e.row ≡ true → CanAddTerm (Constraint (rank m.rows e.row)) d
  unfolding import_counts
  room_for f =
      let k = rank m.rows e.row in
      let inside : k < length (constraints m.rows) = rank_below m e.row f lt in
      let here : nat_eq e.row (get_or (constraints m.rows) k 0) ≡ true = same_row m e.row k f lt inside ∙ eq-eqb k k refl in (
        subst (λ (c : _). k < c.n_con) (sym way.counts) inside,
        omega (
          arith,
          few_terms m clean,
          sum_lt d.terms (constraint_terms m) k (way.rows ∙ sym (length-map (constraints m.rows) (row_terms m))) no_more (omega (arith, inside, way.rows))
              (omega (
                arith,
                least true (eq-eqb e.row e.row refl) (get_or d.terms k [])
                    (row_terms m (get_or (constraints m.rows) k 0)) (get_or (constraints m.rows) k 0) here
                    (way.terms k inside),
                ap length (get_or-map (row_terms m) (constraints m.rows) k 0 [] inside),
              )),
        ),
      )

  room_for_objective : nat_eq e.row (objective_row m.rows) ≡ true → CanAddTerm Objective d
  unfolding import_counts
  room_for_objective f = (
    subst (λ (c : _). 0 < c.n_obj) (sym way.counts) (omega arith),
    omega (arith, few_terms m clean, least true (eq-eqb e.row e.row refl) (get_or d.slopes 0 []) (objective_terms m) (objective_row m.rows) f way.slopes),
  )

  pub there_is_room : (u : RowUse) → u ≡ use_of m.rows e.row → CanAddTerm u d
  there_is_room u same = subst (λ w. CanAddTerm w d) (sym same) (by (is_constraint m.rows e.row) (nat_eq e.row (objective_row m.rows)) refl refl)
    where
      by : (a b : Bool) → is_constraint m.rows e.row ≡ a → nat_eq e.row (objective_row m.rows) ≡ b → CanAddTerm (cond a (Constraint (rank m.rows e.row)) (cond b Objective Unused)) d
      by true b f g = room_for f
      by false true f g = room_for_objective g
      by false false f g = tt

-- ---- the beginning and the end
module _ (m : Mps Dec) where
  -- the next column's entries come first
  pub column_begun : (p j : ℕ) (js : List ℕ) (d : Draft) → p < length js → j ≡ get_or js p j
      → IsOnItsWay m (terms_left m p (drop p js)) d → IsOnItsWay m (entries_left m p (entries_at m j) (drop (suc p) js)) d
  unfolding terms_from
  column_begun p j js d lt is = subst (λ left. IsOnItsWay m left d) (λ k i. terms_from m i p ((drop_is js p j lt is ∙ ap (λ n. j ∷ drop n js) (add-one p)) k))

  pub column_ended : (p : ℕ) (js : List ℕ) (d : Draft) → IsOnItsWay m (entries_left m p [] (drop (suc p) js)) d → IsOnItsWay m (terms_left m (p + 1) (drop (p + 1) js)) d
  column_ended p js d = subst (λ left. IsOnItsWay m left d) (λ k i. terms_from m i (sym (add-one p) k) (drop (sym (add-one p) k) js))

  pub way_begun : (d : Draft) → d.counts ≡ import_counts m → d.terms ≡ replicate (length (constraints m.rows)) [] → d.slopes ≡ [] ∷ [] → IsOnItsWay m (terms_left m 0 (order_of_columns m)) d
  unfolding row_terms
  way_begun d counts terms slopes =
      record {
        counts = counts;
        rows = ap length terms ∙ length-replicate (length (constraints m.rows)) [];
        costs = ap length slopes;
        terms = λ c within. ap (λ xs. xs ++ row_terms m (get_or (constraints m.rows) c 0)) (ap (λ ts. get_or ts c []) terms ∙ get_or-replicate (length (constraints m.rows)) c [] [] within);
        slopes = ap (λ xs. get_or xs 0 [] ++ objective_terms m) slopes;
      }

  one_list : (xs : List (List Term)) (x : List Term) → length xs ≡ 1 → get_or xs 0 [] ≡ x → xs ≡ x ∷ []
  one_list [] x e h = absurd (omega (arith, e))
  one_list (y ∷ []) x e h = ap (λ z. z ∷ []) h
  one_list (y ∷ z ∷ zs) x e h = absurd (omega (arith, e))

  module _ (p : ℕ) (js : List ℕ) (d : Draft) (end : length js ≤ p) (way : IsOnItsWay m (terms_left m p (drop p js)) d) where
    nothing_left : (i : ℕ) → terms_left m p (drop p js) i ≡ []
    unfolding terms_from
    nothing_left i = ap (terms_from m i p) (drop_all js p end)

    pub way_ended_terms : d.terms ≡ constraint_terms m
    way_ended_terms =
        ext_get_or [] d.terms (constraint_terms m) (way.rows ∙ sym (length-map (constraints m.rows) (row_terms m)))
        (λ c lt. let inside : c < length (constraints m.rows) = omega (arith, lt, way.rows) in
        sym (append-nil (get_or d.terms c [])) ∙ ap (λ xs. get_or d.terms c [] ++ xs)
        (sym (nothing_left (get_or (constraints m.rows) c 0))) ∙ way.terms c inside
        ∙ sym (get_or-map (row_terms m) (constraints m.rows) c 0 [] inside))

    pub way_ended_slopes : d.slopes ≡ objective_terms m ∷ []
    way_ended_slopes = one_list d.slopes (objective_terms m) way.costs
        (sym (append-nil (get_or d.slopes 0 [])) ∙ ap (λ xs. get_or d.slopes 0 [] ++ xs)
        (sym (nothing_left (objective_row m.rows))) ∙ way.slopes)
