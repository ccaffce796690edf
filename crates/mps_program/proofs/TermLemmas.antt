-- The terms of rows: how they are put together, their order and their coefficients, and how many there are.
use Rattle.std.proofs.Common.{◌≡◌, ◌≢◌, ℕ, zero, suc, ◌+◌, ◌<◌, ◌≤◌, ◌∙◌, sym, ap, ap₂, refl, subst, arith, Bool, true}
use Rattle.std.proofs.Common.{false, cond, not, nat_eq, ◌&&◌, ◌||◌, if◌then◌else◌, List, [], ◌∷◌, ◌++◌, length, get_or}
use Rattle.std.proofs.Common.{get_or-set_same, get_or-set_other, set, map, drop, Some, None, All, AllPairs, ⊎_elim, ◌⊎◌}
use Rattle.std.proofs.Common.{inl, inr, add-one, append-nil, append_assoc}
use Rattle.std.proofs.lemmas.Bool.{eqb-true, ne_eqb, or_parts, not-false}
use Rattle.std.proofs.lemmas.List.{length-append, ext_get_or}
use Rattle.std.proofs.lemmas.List.Elements.{All-head, All-tail}
use Rattle.std.proofs.lemmas.List.Sums.{sum_by-cons}
use Rattle.std.proofs.Math.ListN.{get_or-map as get_or-map-any}
use Rattle.std.specs.List.{sum_by, filter_map, cons_option}
use Rattle.exact_numbers.specs.Rational.{ℚ, zero_ℚ, one_ℚ, ◌+ℚ◌, ◌*ℚ◌}
use Rattle.exact_numbers.specs.Fits.{fits}
use Rattle.exact_numbers.specs.Sums.{sum_over}
use Rattle.exact_numbers.proofs.RationalLaws.{*ℚ_one, +ℚ_zero, zero-+ℚ}
use Rattle.exact_numbers.specs.declared.dec.Dec.{Dec}
use Rattle.exact_numbers.specs.Values.{dec_value}
use Rattle.linear_program.specs.Coefs.{coef_in, value_or_zero}
use Rattle.linear_program.specs.Decimals.{DecimalTerm, AreDecimals, frac_of, fraction_terms}
use Rattle.linear_program.proofs.CoefLemmas.{found_same, found_apart, found_before}
use Rattle.linear_program.proofs.DecimalLemmas.{AllFit, fractions_ascend, frac_of-value}
use Rattle.mps_model.specs.Built.{entry_of}
use Rattle.mps_model.specs.Mps.{MpsRow, Entry, Column, Mps, entry_with, column_with, with_values, no_column, part_of_row, objective_row}
use Rattle.mps_model.specs.Valid.{AreEntries, entry_count}
use Rattle.mps_program.specs.Places.{listed, one_if}
use Rattle.mps_program.specs.Program.{values_of, is_constraint, constraints, coefficient_at}
use Rattle.mps_program.specs.Terms.{is_zero_dec, term_of, terms_from, row_terms, has_wide_term}
use Rattle.mps_program.specs.InsideForms.{AreInOrder}
use Rattle.mps_program.proofs.FirstLemmas.{listed_at, listed_length}
use Rattle.mps_program.proofs.OnceLemmas.{sum_more, sum_none, term_more, once_or_not}
use Rattle.mps_program.proofs.LoopLemmas.{drop_is, drop_all, fact_is, not_eq, objective_free}
use Rattle.mps_program.proofs.PartLemmas.{zero_value}
use Rattle.mps_program.proofs.PlaceLemmas.{not_both_ways}
use Rattle.mps_program.proofs.LawLemmas.{no_part}

-- ---- a coefficient without a fraction
module _ (ts : List DecimalTerm) (k : ℕ) (t : DecimalTerm) (lt : k < length ts) (is : t ≡ get_or ts k t) where
  pub wide_here : fits (dec_value t.1) ≡ false → has_wide_term (drop k ts) ≡ true
  wide_here e = ap has_wide_term (drop_is ts k t lt is) ∙ ap (λ b. not b || has_wide_term (drop (k + 1) ts)) e

  pub wide_later : fits (dec_value t.1) ≡ true → has_wide_term (drop (k + 1) ts) ≡ has_wide_term (drop k ts)
  wide_later e = sym (ap has_wide_term (drop_is ts k t lt is) ∙ ap (λ b. not b || has_wide_term (drop (k + 1) ts)) e)

pub wide_end : (ts : List DecimalTerm) (k : ℕ) → length ts ≤ k → has_wide_term (drop k ts) ≡ false
wide_end ts k h = ap has_wide_term (drop_all ts k h)

pub all_fit : (ts : List DecimalTerm) → has_wide_term ts ≡ false → AllFit ts
all_fit [] e = tt
all_fit (t ∷ ts) e =
    let parts = or_parts (not (fits (dec_value t.1))) (has_wide_term ts) e in
    (not-false (fits (dec_value t.1)) parts.0, all_fit ts parts.1)

pub as_decimals : (n : ℕ) (ts : List DecimalTerm) → AreInOrder n ts → AllFit ts → AreDecimals n ts
as_decimals n [] a f = tt
as_decimals n (t ∷ ts) a f = (a.0, a.1, f.0, as_decimals (suc t.0) ts a.2 f.1)

-- ---- what one column gives to a row: nothing, or one term
abbrev values : List (Entry Dec) → List (Entry ℚ)
values es = map (entry_with dec_value) es

pub record GivesNone (i j : ℕ) (es : List (Entry Dec)) : Type 0 where
  pub terms : filter_map (term_of i j) es ≡ []
  pub part : part_of_row i (values es) one_ℚ ≡ zero_ℚ

pub record GivesOne (i j : ℕ) (es : List (Entry Dec)) : Type 0 where
  pub number : Dec
  pub terms : filter_map (term_of i j) es ≡ (j, number) ∷ []
  pub some : dec_value number ≢ zero_ℚ
  pub part : part_of_row i (values es) one_ℚ ≡ dec_value number

first_part : (i j : ℕ) (e : Entry Dec) (es : List (Entry Dec)) (b : Bool) → nat_eq e.row i ≡ b
    → part_of_row i (values (e ∷ es)) one_ℚ ≡ cond b (dec_value e.value) zero_ℚ +ℚ part_of_row i (values es) one_ℚ
unfolding part_of_row sum_over
first_part i j e es true h = ap (λ b. cond b (dec_value e.value *ℚ one_ℚ) zero_ℚ +ℚ part_of_row i (values es) one_ℚ) h ∙ ap (λ x. x +ℚ part_of_row i (values es) one_ℚ) (*ℚ_one (dec_value e.value))
first_part i j e es false h = ap (λ b. cond b (dec_value e.value *ℚ one_ℚ) zero_ℚ +ℚ part_of_row i (values es) one_ℚ) h

first_term : (i j : ℕ) (e : Entry Dec) (es : List (Entry Dec)) (b z : Bool) → nat_eq e.row i ≡ b
    → is_zero_dec e.value ≡ z → filter_map (term_of i j) (e ∷ es)
    ≡ cons_option (if b && not z then Some (j, e.value) else None) (filter_map (term_of i j) es)
first_term i j e es b z h g = ap₂ (λ a c. cons_option (if a && not c then Some (j, e.value) else None) (filter_map (term_of i j) es)) h g

-- no entry is in the row
none_given : (i j : ℕ) (es : List (Entry Dec)) → All (λ (e : Entry Dec). e.row ≢ i) es → GivesNone i j es
none_given i j [] h = record { terms = refl; part = no_part i }
none_given i j (e ∷ es) h =
    let other : nat_eq e.row i ≡ false = ne_eqb e.row i (All-head (λ (e : Entry Dec). e.row ≢ i) e es h) in
    let rest = none_given i j es (All-tail (λ (e : Entry Dec). e.row ≢ i) e es h) in
    record {
      terms = first_term i j e es false (is_zero_dec e.value) other refl ∙ rest.terms;
      part = first_part i j e es false other ∙ zero-+ℚ (part_of_row i (values es) one_ℚ) ∙ rest.part;
    }

pub given : (i j : ℕ) (es : List (Entry Dec)) → AllPairs (λ (e g : Entry Dec). e.row ≢ g.row) es → GivesNone i j es ⊎ GivesOne i j es
given i j [] h = inl (record { terms = refl; part = no_part i })
given i j (e ∷ es) h = by (nat_eq e.row i) (is_zero_dec e.value) refl refl (given i j es (λ k l d lt within. h (suc k) (suc l) d (omega (arith, lt)) (omega (arith, within))))
  where
    others : nat_eq e.row i ≡ true → GivesNone i j es
    others here = none_given i j es (λ k d lt same. h 0 (suc k) d (omega arith) (omega (arith, lt)) (eqb-true e.row i here ∙ sym same))

    by : (b z : Bool) → nat_eq e.row i ≡ b → is_zero_dec e.value ≡ z → GivesNone i j es ⊎ GivesOne i j es → GivesNone i j (e ∷ es) ⊎ GivesOne i j (e ∷ es)
    by true true here none later =
        let rest = others here in
        inl (record {
          terms = first_term i j e es true true here none ∙ rest.terms;
          part = first_part i j e es true here ∙ ap₂ ◌+ℚ◌ ((zero_value e.value).0 none) rest.part ∙ +ℚ_zero zero_ℚ;
        })
    by true false here some later =
        let rest = others here in
        inr (record {
          number = e.value;
          terms = first_term i j e es true false here some ∙ ap (λ ts. (j, e.value) ∷ ts) rest.terms;
          some = λ z. not_both_ways (is_zero_dec e.value) ((zero_value e.value).1 z) some;
          part = first_part i j e es true here ∙ ap (λ x. dec_value e.value +ℚ x) rest.part ∙ +ℚ_zero (dec_value e.value);
        })
    by false z other g later =
        let terms = first_term i j e es false z other g in
        let part = first_part i j e es false other ∙ zero-+ℚ (part_of_row i (values es) one_ℚ) in
        ⊎_elim
        (λ (n : GivesNone i j es). inl (record { terms = terms ∙ n.terms; part = part ∙ n.part }))
        (λ (o : GivesOne i j es). inr (record { number = o.number; terms = terms ∙ o.terms; some = o.some; part = part ∙ o.part }))
        later

-- ---- the terms of a row
abbrev pub AreApart : ℕ → List (Column Dec) → Type 0
AreApart n cs = All (λ (c : Column Dec). AreEntries n c.entries) cs

from_later : (n k : ℕ) (ts : List DecimalTerm) → n ≤ k → AreInOrder k ts → AreInOrder n ts
from_later n k [] h a = tt
from_later n k (t ∷ ts) h a = (omega (arith, h, a.0), a.1, a.2)

module _ (n i : ℕ) where
  terms_cons : (p : ℕ) (c : Column Dec) (cs : List (Column Dec)) (ts : List DecimalTerm) → filter_map (term_of i p) c.entries ≡ ts → terms_from i p (c ∷ cs) ≡ ts ++ terms_from i (suc p) cs
  unfolding terms_from
  terms_cons p c cs ts e = ap (λ us. us ++ terms_from i (suc p) cs) e

  no_terms : (p : ℕ) → terms_from i p [] ≡ []
  unfolding terms_from
  no_terms p = refl

  own : (p : ℕ) (c : Column Dec) (cs : List (Column Dec)) → AreApart n (c ∷ cs) → GivesNone i p c.entries ⊎ GivesOne i p c.entries
  own p c cs h = given i p c.entries (All-head (λ (c : Column Dec). AreEntries n c.entries) c cs h).apart

  rest_apart : (c : Column Dec) (cs : List (Column Dec)) → AreApart n (c ∷ cs) → AreApart n cs
  rest_apart c cs h = All-tail (λ (c : Column Dec). AreEntries n c.entries) c cs h

  pub in_order : (p : ℕ) (cs : List (Column Dec)) → AreApart n cs → AreInOrder p (terms_from i p cs)
  in_order p [] h = subst (AreInOrder p) (sym (no_terms p)) tt
  in_order p (c ∷ cs) h =
      let rest = in_order (suc p) cs (rest_apart c cs h) in
      ⊎_elim
      (λ (g : GivesNone i p c.entries). subst (AreInOrder p) (sym (terms_cons p c cs [] g.terms)) (from_later p (suc p) (terms_from i (suc p) cs) (omega arith) rest))
      (λ (g : GivesOne i p c.entries). subst (AreInOrder p) (sym (terms_cons p c cs ((p, g.number) ∷ []) g.terms)) (omega arith, g.some, rest))
      (own p c cs h)

  abbrev Coefs : ℕ → List (Column Dec) → List DecimalTerm → Type 0
  Coefs p cs ts = (q : ℕ) → coef_in (fraction_terms ts) (p + q) ≡ part_of_row i (values (get_or cs q no_column).entries) one_ℚ

  pub coefs : (p : ℕ) (cs : List (Column Dec)) → AreApart n cs → AllFit (terms_from i p cs) → Coefs p cs (terms_from i p cs)
  coefs p [] h f = λ q. ap (λ ts. coef_in (fraction_terms ts) (p + q)) (no_terms p) ∙ sym (no_part i)
  coefs p (c ∷ cs) h f =
      ⊎_elim
      (λ (g : GivesNone i p c.entries). let e = terms_cons p c cs [] g.terms in
      subst (Coefs p (c ∷ cs)) (sym e) (after_none g (subst AllFit e f)
      (coefs (suc p) cs (rest_apart c cs h) (subst AllFit e f))))
      (λ (g : GivesOne i p c.entries). let e = terms_cons p c cs ((p, g.number) ∷ []) g.terms in
      subst (Coefs p (c ∷ cs)) (sym e) (after_one g (subst AllFit e f)
      (coefs (suc p) cs (rest_apart c cs h) (subst AllFit e f).1)))
      (own p c cs h)
    where
      rest : List DecimalTerm
      rest = terms_from i (suc p) cs

      before : AllFit rest → (j : ℕ) → j < suc p → coef_in (fraction_terms rest) j ≡ zero_ℚ
      before fit j lt = ap value_or_zero (found_before (suc p) (fraction_terms rest) j (fractions_ascend (suc p) rest (as_decimals (suc p) rest (in_order (suc p) cs (rest_apart c cs h)) fit)) lt)

      later : Coefs (suc p) cs rest → (r : ℕ) → coef_in (fraction_terms rest) (p + suc r) ≡ part_of_row i (values (get_or cs r no_column).entries) one_ℚ
      later more r = ap (coef_in (fraction_terms rest)) (omega arith) ∙ more r

      after_none : GivesNone i p c.entries → AllFit rest → Coefs (suc p) cs rest → Coefs p (c ∷ cs) rest
      after_none g fit more zero = before fit (p + 0) (omega arith) ∙ sym g.part
      after_none g fit more (suc r) = later more r

      after_one : (g : GivesOne i p c.entries) → AllFit ((p, g.number) ∷ rest) → Coefs (suc p) cs rest → Coefs p (c ∷ cs) ((p, g.number) ∷ rest)
      after_one g fit more zero = ap value_or_zero (found_same (p, frac_of g.number) (fraction_terms rest) (p + 0) (omega arith)) ∙ frac_of-value g.number fit.0 ∙ sym g.part
      after_one g fit more (suc r) = ap value_or_zero (found_apart (p, frac_of g.number) (fraction_terms rest) (p + suc r) (λ same. omega arith)) ∙ later more r

-- ---- the terms of a row of a program
module _ (m : Mps Dec) (apart : AreApart (length m.rows) m.columns) (i : ℕ) where
  pub row_in_order : AreInOrder 0 (row_terms m i)
  unfolding row_terms
  row_in_order = in_order (length m.rows) i 0 m.columns apart

  pub row_decimals : has_wide_term (row_terms m i) ≡ false → AreDecimals 0 (row_terms m i)
  row_decimals e = as_decimals 0 (row_terms m i) row_in_order (all_fit (row_terms m i) e)

  pub row_coefs : has_wide_term (row_terms m i) ≡ false → (j : ℕ) → coef_in (fraction_terms (row_terms m i)) j ≡ coefficient_at (values_of m) i j
  unfolding row_terms with_values
  row_coefs e j =
      ap (coef_in (fraction_terms (terms_from i 0 m.columns))) (omega arith)
      ∙ coefs (length m.rows) i 0 m.columns apart (all_fit (terms_from i 0 m.columns) e) j
      ∙ ap (λ (c : Column ℚ). part_of_row i c.entries one_ℚ) (sym (get_or-map-any (column_with dec_value) m.columns j no_column))

-- ---- the loops over entries and columns
-- one term more in its row
pub term_sent : (all : List (List DecimalTerm)) (r j : ℕ) (d : Dec) → r < length all → is_zero_dec d ≡ false → (i : ℕ) (rest : List (Entry Dec)) (after : List DecimalTerm) → i < length all →
    get_or (set all r (get_or all r [] ++ (j, d) ∷ [])) i [] ++ (filter_map (term_of i j) rest ++ after) ≡ get_or all i [] ++ (filter_map (term_of i j) (record { row = r; value = d } ∷ rest) ++ after)
term_sent all r j d lt some i rest after within = by (nat_eq r i) refl
  where
    more : List DecimalTerm
    more = filter_map (term_of i j) rest ++ after

    by : (b : Bool) → nat_eq r i ≡ b → get_or (set all r (get_or all r [] ++ (j, d) ∷ [])) i [] ++ more ≡ get_or all i [] ++ (filter_map (term_of i j) (record { row = r; value = d } ∷ rest) ++ after)
    by true e =
        let same = eqb-true r i e in
        ap (λ k. get_or (set all r (get_or all r [] ++ (j, d) ∷ [])) k [] ++ more) (sym same)
        ∙ ap (λ ts. ts ++ more) (get_or-set_same all r (get_or all r [] ++ (j, d) ∷ []) [] lt)
        ∙ append_assoc (get_or all r []) ((j, d) ∷ []) more
        ∙ ap (λ k. get_or all k [] ++ ((j, d) ∷ more)) same
        ∙ ap (λ ts. get_or all i [] ++ (ts ++ after)) (sym (first_term i j (record { row = r; value = d }) rest true false e some))
    by false e =
        ap (λ ts. ts ++ more) (get_or-set_other all r i (get_or all r [] ++ (j, d) ∷ []) [] (not_eq r i e))
        ∙ ap (λ ts. get_or all i [] ++ (ts ++ after)) (sym (first_term i j (record { row = r; value = d }) rest false false e some))

-- the terms so far, and those of the columns that are left, are all
pub record AreOnTheirWay (m : Mps Dec) (j : ℕ) (all : List (List DecimalTerm)) : Type 0 where
  pub count : length all ≡ length m.rows
  pub left : (i : ℕ) → i < length m.rows → get_or all i [] ++ terms_from i j (drop j m.columns) ≡ row_terms m i

module _ (m : Mps Dec) where
  pub way_begun : (all : List (List DecimalTerm)) → length all ≡ length m.rows → All (λ ts. ts ≡ []) all → AreOnTheirWay m 0 all
  unfolding row_terms
  way_begun all size empty =
      record {
        count = size;
        left = λ i lt. ap (λ ts. ts ++ terms_from i 0 m.columns) (empty i [] (omega (arith, lt, size)));
      }

  -- these are the entries of column j
  pub record AreEntriesOf (j : ℕ) (es : List (ℕ × Dec)) : Type 0 where
    pub column : Column Dec
    pub at : drop j m.columns ≡ column ∷ drop (j + 1) m.columns
    pub same : map entry_of es ≡ column.entries
    pub within : All (λ (e : Entry Dec). e.row < length m.rows) (map entry_of es)

  pub entries_read : (j : ℕ) (cs : List (Column Dec)) (c : Column Dec) (es : List (ℕ × Dec)) → j < length cs
      → cs ≡ m.columns → c ≡ get_or cs j c → All (λ (x : Column Dec). AreEntries (length m.rows) x.entries) m.columns
      → map entry_of es ≡ c.entries → AreEntriesOf j es
  entries_read j cs c es inside columns is valid read =
      let lt : j < length m.columns = subst (λ (xs : List (Column Dec)). j < length xs) columns inside in
      let column : c ≡ get_or m.columns j c = is ∙ ap (λ xs. get_or xs j c) columns in
      record {
        column = c;
        at = drop_is m.columns j c lt column;
        same = read;
        within = subst (λ (xs : List (Entry Dec)). All (λ (e : Entry Dec). e.row < length m.rows) xs) (sym read)
            (fact_is m.columns j c lt column (λ (x : Column Dec). AreEntries (length m.rows) x.entries) valid).within;
      }

  pub way_further : (j : ℕ) (es : List (ℕ × Dec)) (all new : List (List DecimalTerm)) → AreEntriesOf j es → AreOnTheirWay m j all → length new ≡ length all
      → ((i : ℕ) (after : List DecimalTerm) → i < length all → get_or new i [] ++ after ≡ get_or all i [] ++ (filter_map (term_of i j) (map entry_of es) ++ after)) → AreOnTheirWay m (j + 1) new
  unfolding terms_from
  way_further j es all new read way size h =
      record {
        count = size ∙ way.count;
        left = λ i lt.
            h i (terms_from i (j + 1) (drop (j + 1) m.columns)) (omega (arith, lt, way.count))
            ∙ ap₂ (λ us k. get_or all i [] ++ (filter_map (term_of i j) us ++ terms_from i k (drop (j + 1) m.columns))) read.same (add-one j)
            ∙ ap (λ cs. get_or all i [] ++ terms_from i j cs) (sym read.at)
            ∙ way.left i lt;
      }

  pub way_ended : (j : ℕ) (all : List (List DecimalTerm)) → length m.columns ≤ j → AreOnTheirWay m j all → all ≡ listed (row_terms m) (length m.rows)
  unfolding terms_from
  way_ended j all end way =
      ext_get_or [] all (listed (row_terms m) (length m.rows)) (way.count ∙ sym (listed_length (row_terms m) (length m.rows)))
      (λ i lt. let inside : i < length m.rows = omega (arith, lt, way.count) in
      sym (append-nil (get_or all i [])) ∙ ap (λ cs. get_or all i [] ++ terms_from i j cs)
      (sym (drop_all m.columns j end)) ∙ way.left i inside
      ∙ sym (listed_at (row_terms m) (length m.rows) i [] inside))

-- ---- how many terms there are
module _ (rows : List MpsRow) where
  abbrev test : ℕ → Bool
  test = is_constraint rows

  abbrev obj : ℕ
  obj = objective_row rows

  -- no entry is in a constraint and in the objective
  at_most_one : (r : ℕ) (z : Bool) → one_if (test r && z) + one_if (nat_eq r obj && z) ≤ 1
  at_most_one r z = by (test r) (nat_eq r obj) z refl refl
    where
      by : (a b z : Bool) → test r ≡ a → nat_eq r obj ≡ b → one_if (a && z) + one_if (b && z) ≤ 1
      by true true z e f = absurd (not_both_ways (test r) e (ap test (eqb-true r obj f) ∙ objective_free rows))
      by true false true e f = omega arith
      by true false false e f = omega arith
      by false true true e f = omega arith
      by false true false e f = omega arith
      by false false z e f = omega arith

  column_few : (p : ℕ) (es : List (Entry Dec)) → sum_by (λ i. length (filter_map (term_of i p) es)) (constraints rows) + length (filter_map (term_of obj p) es) ≤ length es
  column_few p [] = omega (arith, sum_none (λ i. length (filter_map (term_of i p) [])) (λ i. refl) (constraints rows))
  column_few p (e ∷ es) =
      let some = not (is_zero_dec e.value) in
      omega (
        arith,
        sum_more (λ i. length (filter_map (term_of i p) (e ∷ es))) (λ i. one_if (nat_eq e.row i && some))
            (λ i. length (filter_map (term_of i p) es)) (λ i. term_more (p, e.value) (nat_eq e.row i && some)
            (filter_map (term_of i p) es)) (constraints rows),
        term_more (p, e.value) (nat_eq e.row obj && some) (filter_map (term_of obj p) es),
        once_or_not rows e.row some,
        at_most_one e.row some,
        column_few p es,
      )

  columns_few : (p : ℕ) (cs : List (Column Dec)) → sum_by (λ i. length (terms_from i p cs)) (constraints rows) + length (terms_from obj p cs) ≤ entry_count cs
  unfolding terms_from
  columns_few p [] = omega (arith, sum_none (λ i. 0) (λ i. refl) (constraints rows))
  columns_few p (c ∷ cs) =
      omega (
        arith,
        sum_more (λ i. length (terms_from i p (c ∷ cs))) (λ i. length (filter_map (term_of i p) c.entries))
            (λ i. length (terms_from i (suc p) cs)) (λ i. length-append (filter_map (term_of i p) c.entries)
            (terms_from i (suc p) cs)) (constraints rows),
        length-append (filter_map (term_of obj p) c.entries) (terms_from obj (suc p) cs),
        column_few p c.entries,
        columns_few (suc p) cs,
        sum_by-cons (λ (c : Column Dec). length c.entries) c cs,
      )

pub few_terms : (m : Mps Dec) → sum_by (λ i. length (row_terms m i)) (constraints m.rows) + length (row_terms m (objective_row m.rows)) ≤ entry_count m.columns
unfolding row_terms
few_terms m = columns_few m.rows 0 m.columns
