-- Rows that are copies of bodies and sides, and the program that they are.
use Rattle.std.proofs.Common.{◌≡◌, ℕ, zero, suc, ◌+◌, ◌<◌, ◌≤◌, ◌∙◌, sym, ap, ap₂, subst, refl, arith, List, [], ◌∷◌}
use Rattle.std.proofs.Common.{◌++◌, length, length-drop, drop, map, get_or, All, Option, Some, None, option_map}
use Rattle.std.proofs.Common.{append_assoc, append-nil, subst₂}
use Rattle.std.specs.Prelude.{slice_get}
use Rattle.std.specs.Option.{option_map_or}
use Rattle.std.proofs.lemmas.Option.{get_or_from_slice_get, same_Some, slice_get-map}
use Rattle.std.proofs.lemmas.List.{drop-drop, drop_all, get_or-drop}
use Rattle.std.proofs.lemmas.List.Elements.{All-tail}
use Rattle.linear_program.specs.Linear.{Row as LinearRow, Variable, unbounded}
use Rattle.linear_program.specs.Linear.{zero_form}
use Rattle.exact_numbers.specs.declared.dec.Dec.{Dec}
use Rattle.linear_program.specs.declared.interval.Interval.{Interval}
use Rattle.linear_program.specs.declared.kind.Kind.{Kind}
use Rattle.linear_program.specs.declared.kind.Kind.TheVariants.{Continuous}
use Rattle.linear_program.specs.Elements.{elements_from}
use Rattle.linear_program.specs.Names.{row_name, variable_name}
use Rattle.linear_program.specs.Intervals.{interval_of, is_whole_kind}
use Rattle.linear_program.specs.declared.form.Form.{Form}
use Rattle.linear_program.specs.Coefs.{Term, AreAscending, AreBelow, coef_in}
use Rattle.linear_program.specs.Forms.{form_terms}
use Rattle.linear_program.specs.Programs.{IsFormOver, form_of as folded_form, rows_from, variables_from}
use Rattle.linear_program.proofs.ListLemmas.{rest_of}
use Rattle.exact_checks.specs.declared.form.Body.{Body}
use Rattle.exact_checks.specs.declared.form.Row.{Row}
use Rattle.exact_checks.specs.Built.{IsCopy, AreRowsOf, AreWithin}
use Rattle.exact_checks.specs.Lists.{form_of, body_in, side_in}
use Rattle.exact_checks.specs.Programs.{program_row, side_listed, program_variable}
use Rattle.exact_checks.specs.Terms.{AreTerms, side_value}

-- ascending and below are one fact
pub are_terms : (from n : ℕ) (ts : List Term) → AreAscending from ts → AreBelow n ts → AreTerms from n ts
unfolding AreTerms
are_terms from n [] h k = tt
are_terms from n (t ∷ ts) h k = (h.0, k.0, h.1, are_terms (suc t.0) n ts h.2 k.1)

-- ---- a copy of a form is the form
pub copy_is : (form : Form) (b : Body) → IsCopy form b → form_of b ≡ folded_form form
copy_is form b copy = ap₂ (λ c f. record { constant = c; coefficient = f }) copy.constant (ap coef_in copy.terms)

-- ---- rows, one by one: those so far, with any for what is left
abbrev pub AreRowsSoFar : List Form → List Interval → List Row → ℕ → Type 0
AreRowsSoFar bodies sides rows i = (more : List Row) → AreRowsOf (drop i bodies) (drop i sides) more → AreRowsOf bodies sides (rows ++ more)

pub none_copied : (bodies : List Form) (sides : List Interval) (rows : List Row) → rows ≡ [] → AreRowsSoFar bodies sides rows 0
none_copied bodies sides rows none more all = subst (λ rs. AreRowsOf bodies sides (rs ++ more)) (sym none) all

pub none_within : (n : ℕ) (rows : List Row) → rows ≡ [] → AreWithin n rows
none_within n rows none i r at = absurd (let clash : slice_get [] i ≡ Some r = subst (λ rs. slice_get rs i ≡ Some r) none at in cc)

pub within_more : (n : ℕ) (rows : List Row) (r : Row) → AreWithin n rows → AreTerms 0 n r.body.terms → AreWithin n (rows ++ r ∷ [])
within_more n [] r h fine zero q e = subst (λ (x : Row). AreTerms 0 n x.body.terms) (same_Some r q e) fine
within_more n [] r h fine (suc k) q e = absurd (cc)
within_more n (p ∷ rows) r h fine zero q e = h 0 q e
within_more n (p ∷ rows) r h fine (suc k) q e = within_more n rows r (λ m x f. h (suc m) x f) fine k q e

-- the terms of one row more
pub row_within : (n : ℕ) (bodies : List Form) (rows new : List Row) (i : ℕ) (b : Form) (r : Row) → AreWithin n rows
    → All (IsFormOver n) bodies → i < length bodies → b ≡ get_or bodies i b → IsCopy b r.body
    → AreAscending 0 r.body.terms → new ≡ rows ++ r ∷ [] → AreWithin n new
row_within n bodies rows new i b r so over l is copy up pushed = subst (AreWithin n) (sym pushed) (within_more n rows r so fine)
  where
    fine : AreTerms 0 n r.body.terms
    fine = are_terms 0 n r.body.terms up (subst (AreBelow n) (sym copy.terms) (subst (λ (f : Form). AreBelow n (form_terms f)) (sym is) (over i b l)))

pub row_copied : (bodies : List Form) (sides : List Interval) (rows new : List Row) (i : ℕ) (b : Form) (s : Interval)
    (r : Row) → AreRowsSoFar bodies sides rows i → i < length bodies → b ≡ get_or bodies i b → i < length sides
    → s ≡ get_or sides i s →
    IsCopy b r.body → r.side ≡ s → new ≡ rows ++ r ∷ [] → AreRowsSoFar bodies sides new (i + 1)
row_copied bodies sides rows new i b s r so l is m at copy side pushed more all =
    subst (AreRowsOf bodies sides) (sym (ap (λ rs. rs ++ more) pushed ∙ append_assoc rows (r ∷ []) more))
    (so (r ∷ more) (subst₂ (λ bs ss. AreRowsOf bs ss (r ∷ more)) (sym (rest_of bodies i b l is)) (sym (rest_of sides i s m at)) (copy, side, all)))

pub rows_copied : (bodies : List Form) (sides : List Interval) (rows : List Row) (i : ℕ) → AreRowsSoFar bodies sides rows i → length bodies ≤ i → AreRowsOf bodies sides rows
rows_copied bodies sides rows i so l =
    subst (AreRowsOf bodies sides) (append-nil rows) (so [] (subst (λ bs. AreRowsOf bs (drop i sides) []) (sym (drop_all i bodies l)) tt))

-- the body that comes next
pub record IsNextBody (bodies more : List Form) (i : ℕ) (b : Form) : Type 0 where
  pub there : i < length bodies
  pub is : b ≡ get_or bodies i b
  pub left : more ≡ drop (i + 1) bodies

pub next_body : (bodies rest more : List Form) (i : ℕ) (b : Form) → rest ≡ drop i bodies → rest ≡ b ∷ more → IsNextBody bodies more i b
next_body bodies rest more i b left some =
    let now : drop i bodies ≡ b ∷ more = sym left ∙ some in
    let same : i + 0 ≡ i = omega arith in
    record {
      there = omega (arith, length-drop i bodies, ap length now);
      is = sym (ap (λ bs. get_or bs 0 b) now) ∙ get_or-drop i bodies 0 b ∙ ap (λ k. get_or bodies k b) same;
      left = ap (drop 1) (sym now) ∙ drop-drop 1 i bodies;
    }

-- no body is left
pub rows_at_end : (bodies rest : List Form) (sides : List Interval) (rows : List Row)
    → AreRowsSoFar bodies sides rows (length rows) → rest ≡ drop (length rows) bodies → length rest ≡ 0
    → AreRowsOf bodies sides rows
rows_at_end bodies rest sides rows so left none = rows_copied bodies sides rows (length rows) so (omega (arith, length-drop (length rows) bodies, ap length left, none))

pub rows_count : (bodies : List Form) (sides : List Interval) (rows : List Row) → AreRowsOf bodies sides rows → length rows ≡ length bodies
rows_count [] sides [] h = refl
rows_count [] sides (r ∷ rs) h = absurd h
rows_count (b ∷ bs) sides [] h = absurd h
rows_count (b ∷ bs) [] (r ∷ rs) h = absurd h
rows_count (b ∷ bs) (s ∷ ss) (r ∷ rs) h = ap suc (rows_count bs ss rs h.2)

-- ---- the rows of the program
row_is : (all : List Row) (i : ℕ) (b : Form) (r : Row) (s : Interval) → IsCopy b r.body → r.side ≡ s
    → slice_get all i ≡ Some r → record { name = row_name i; body = folded_form b; side = interval_of s }
    ≡ program_row all i
unfolding body_in side_in
row_is all i b r s copy side at =
    ap₂ (λ x y. record { name = row_name i; body = x; side = y })
    (sym (ap (λ o. option_map_or (λ (r : Row). form_of r.body) o zero_form) at ∙ copy_is b r.body copy))
    (sym (ap (λ o. option_map_or (λ (r : Row). interval_of r.side) o unbounded) at ∙ ap interval_of side))

pub rows_are : (n : ℕ) (all : List Row) (i : ℕ) (bodies : List Form) (sides : List Interval) (rows : List Row)
    → All (IsFormOver n) bodies → AreRowsOf bodies sides rows
    → ((k : ℕ) (r : Row) → slice_get rows k ≡ Some r → slice_get all (i + k) ≡ Some r)
    → elements_from (program_row all) i (length rows) ≡ rows_from i bodies sides
unfolding elements_from
rows_are n all i [] sides [] over h at = refl
rows_are n all i [] sides (r ∷ rs) over h at = absurd h
rows_are n all i (b ∷ bs) sides [] over h at = absurd h
rows_are n all i (b ∷ bs) [] (r ∷ rs) over h at = absurd h
rows_are n all i (b ∷ bs) (s ∷ ss) (r ∷ rs) over h at =
    let zero_more : i + 0 ≡ i = omega arith in
    let here : slice_get all i ≡ Some r = ap (slice_get all) (sym zero_more) ∙ at 0 r refl in
    ap₂ (λ (x : LinearRow) xs. x ∷ xs)
    (sym (row_is all i b r s h.0 h.1 here))
    (rows_are n all (suc i) bs ss rs (All-tail (IsFormOver n) b bs over) h.2 (λ k q e. let next : suc i + k ≡ i + suc k = omega arith in ap (slice_get all) next ∙ at (suc k) q e))

-- ---- its variables
variable_is : (lo hi : List (Option Dec)) (kinds : List Kind) (j : ℕ) (b : Interval) (k : Kind)
    → slice_get lo j ≡ Some b.lo → slice_get hi j ≡ Some b.hi → slice_get kinds j ≡ Some k
    → record { name = variable_name j; bound = interval_of b; whole = is_whole_kind k } ≡ program_variable lo hi kinds j
unfolding side_listed
variable_is lo hi kinds j b k l h q =
    ap₂ (λ x y. record { name = variable_name j; bound = x; whole = y })
    (sym (ap₂ (λ u v. record { lower = option_map_or side_value u None; upper = option_map_or side_value v None }) l h))
    (ap is_whole_kind (sym (get_or_from_slice_get kinds j k Continuous q)))

module _ (lo hi : List (Option Dec)) (all : List Kind) where
  variables_from_are : (j : ℕ) (bounds : List Interval) (kinds : List Kind) → length kinds ≡ length bounds →
      ((k : ℕ) (b : Interval) → slice_get bounds k ≡ Some b
      → (slice_get lo (j + k) ≡ Some b.lo) × (slice_get hi (j + k) ≡ Some b.hi))
      → ((k : ℕ) (q : Kind) → slice_get kinds k ≡ Some q → slice_get all (j + k) ≡ Some q) →
      elements_from (program_variable lo hi all) j (length bounds) ≡ variables_from j bounds kinds
  unfolding elements_from
  variables_from_are j [] kinds e sides at = refl
  variables_from_are j (b ∷ bs) [] e sides at = absurd (omega (arith, e))
  variables_from_are j (b ∷ bs) (q ∷ qs) e sides at =
      let zero_more : j ≡ j + 0 = omega arith in
      let here = sides 0 b refl in
      ap₂ (λ (x : Variable) xs. x ∷ xs)
      (sym (variable_is lo hi all j b q (ap (slice_get lo) zero_more ∙ here.0) (ap (slice_get hi) zero_more ∙ here.1) (ap (slice_get all) zero_more ∙ at 0 q refl)))
      (variables_from_are (suc j) bs qs (omega (arith, e))
      (λ k b h. let next : suc j + k ≡ j + suc k = omega arith in (ap (slice_get lo) next ∙ (sides (suc k) b h).0, ap (slice_get hi) next ∙ (sides (suc k) b h).1))
      (λ k r h. let next : suc j + k ≡ j + suc k = omega arith in ap (slice_get all) next ∙ at (suc k) r h))

pub variables_are : (bounds : List Interval) (kinds : List Kind) → length kinds ≡ length bounds
    → elements_from (program_variable (map (λ b. b.lo) bounds) (map (λ b. b.hi) bounds) kinds) 0 (length bounds)
    ≡ variables_from 0 bounds kinds
variables_are bounds kinds e =
    let lo = map (λ (b : Interval). b.lo) bounds in
    let hi = map (λ (b : Interval). b.hi) bounds in
    variables_from_are lo hi kinds 0 bounds kinds e
    (λ k b h. let same : 0 + k ≡ k = omega arith in (
      ap (slice_get lo) same ∙ slice_get-map (λ (b : Interval). b.lo) bounds k ∙ ap (option_map (λ (b : Interval). b.lo)) h,
      ap (slice_get hi) same ∙ slice_get-map (λ (b : Interval). b.hi) bounds k ∙ ap (option_map (λ (b : Interval). b.hi)) h,
    ))
    (λ k q h. let same : 0 + k ≡ k = omega arith in ap (slice_get kinds) same ∙ h)
