-- What the parts of a program are.
use Rattle.std.proofs.Common.{◌≡◌, ℕ, ◌+◌, ◌<◌, ◌∙◌, sym, ap, refl, subst, Bool, true, false, cond, nat_eq, ◌||◌, List}
use Rattle.std.proofs.Common.{[], ◌∷◌, ◌++◌, length, get_or, map, Option, Some, None, MatchOption, All, IsTrue, ◌↔◌}
use Rattle.std.proofs.Common.{pos}
use Rattle.std.proofs.lemmas.Bool.Decides.{Decides-int_eq}
use Rattle.std.proofs.lemmas.List.{length-map, get_or-map, map-append, get_or_default}
use Rattle.std.proofs.Math.ListN.{get_or-map as get_or-map-any}
use Rattle.std.specs.Option.{option_map}
use Rattle.exact_numbers.specs.Rational.{ℚ, zero_ℚ}
use Rattle.exact_numbers.specs.declared.dec.Dec.{Dec}
use Rattle.exact_numbers.specs.Values.{dec_value}
use Rattle.exact_numbers.proofs.Signs.{dec_zero}
use Rattle.linear_program.specs.Intervals.{interval_of}
use Rattle.linear_program.specs.declared.interval.Interval.{Interval as Sides}
use Rattle.linear_program.specs.declared.kind.Kind.{Kind}
use Rattle.mps_model.specs.Built.{entry_of, bound_of}
use Rattle.mps_model.specs.Mps.{Entry, Bound, Column, Mps, with_values, entry_with, column_with, no_mps_row, no_column}
use Rattle.mps_model.specs.Mps.{at_row, rhs_at, or_zero, row_sides, row_interval, column_at, SetSides, interval_set}
use Rattle.mps_model.specs.Mps.{column_interval}
use Rattle.mps_model.specs.declared.kinds.BoundKind.{BoundKind}
use Rattle.mps_model.specs.declared.kinds.RowKind.{RowKind}
use Rattle.mps_program.specs.declared.columns.ColumnSides.{ColumnSides}
use Rattle.mps_program.specs.InsideColumns.{sides_value, sets_of}
use Rattle.mps_program.specs.Kinds.{kind_by, column_kind, are_zero_to_one}
use Rattle.mps_program.specs.Decimals.{sides_from}
use Rattle.mps_program.specs.Faults.{is_range_wide, is_row_wide}
use Rattle.mps_program.specs.Places.{places}
use Rattle.mps_program.specs.Program.{values_of}
use Rattle.mps_program.specs.Terms.{is_zero_dec}
use Rattle.mps_program.proofs.PlaceLemmas.{one_where, places_more}
use Rattle.mps_program.proofs.SideLemmas.{sides_of}

pub zero_same : (b : Bool) (d : Dec) → IsTrue b ↔ (dec_value d ≡ zero_ℚ) → b ≡ is_zero_dec d
zero_same b d h = by b (is_zero_dec d) refl h
  where
    by : (b t : Bool) → is_zero_dec d ≡ t → IsTrue b ↔ (dec_value d ≡ zero_ℚ) → b ≡ t
    by true true e h = refl
    by false false e h = refl
    by true false e h = let yes_zero : is_zero_dec d ≡ true = (Decides-int_eq d.m (pos 0)).1 ((dec_zero d.m d.e).1 (h.0 refl)) in sym yes_zero ∙ e
    by false true e h = h.1 ((dec_zero d.m d.e).0 ((Decides-int_eq d.m (pos 0)).0 e))

-- a decimal is tested for 0 by its mantissa
pub zero_value : (d : Dec) → (is_zero_dec d ≡ true) ↔ (dec_value d ≡ zero_ℚ)
zero_value d = (λ e. (dec_zero d.m d.e).0 ((Decides-int_eq d.m (pos 0)).0 e), λ e. (Decides-int_eq d.m (pos 0)).1 ((dec_zero d.m d.e).1 e))

-- ---- entries
module _ (es : List (ℕ × Dec)) (k : ℕ) (t : ℕ × Dec) (lt : k < length es) (is : t ≡ get_or es k t) where
  entry_is : entry_of t ≡ get_or (map entry_of es) k (entry_of t)
  entry_is = ap entry_of is ∙ sym (get_or-map entry_of es k t (entry_of t) lt)

  pub entry_within : (n : ℕ) → All (λ e. e.row < n) (map entry_of es) → t.0 < n
  entry_within n h = subst (λ (e : Entry Dec). e.row < n) (sym entry_is) (h k (entry_of t) (subst (λ m. k < m) (sym (length-map es entry_of)) lt))

pub bound_within : (bs : List (BoundKind × ℕ × Dec)) (k n : ℕ) (t : BoundKind × ℕ × Dec) → k < length bs → t ≡ get_or bs k t → All (λ b. b.column < n) (map bound_of bs) → t.1 < n
bound_within bs k n t lt is h = subst (λ (b : Bound Dec). b.column < n)
    (sym (ap bound_of is ∙ sym (get_or-map bound_of bs k t (bound_of t) lt)))
    (h k (bound_of t) (subst (λ m. k < m) (sym (length-map bs bound_of)) lt))

-- ---- rows
pub sides_found : (r : Option Sides) (kind : RowKind) (b x : ℚ) (range : Option ℚ) → b ≡ x
    → MatchOption r (is_range_wide kind b range ≡ true) (λ s. (is_range_wide kind b range ≡ false)
    × (interval_of s ≡ row_sides kind b range)) → MatchOption r (is_range_wide kind x range ≡ true)
    (λ s. (is_range_wide kind x range ≡ false) × (s ≡ sides_from (row_sides kind x range)))
sides_found None kind b x range e h = sym (ap (λ y. is_range_wide kind y range) e) ∙ h
sides_found (Some s) kind b x range e h = (sym (ap (λ y. is_range_wide kind y range) e) ∙ h.0, sides_of s (row_sides kind b range) h.1 ∙ ap (λ y. sides_from (row_sides kind y range)) e)

at_values : (i : ℕ) (es : List (Entry Dec)) → option_map dec_value (at_row i es) ≡ at_row i (map (entry_with dec_value) es)
unfolding at_row
at_values i [] = refl
at_values i (e ∷ es) = by (nat_eq e.row i) (at_values i es)
  where
    by : (b : Bool) → option_map dec_value (at_row i es) ≡ at_row i (map (entry_with dec_value) es)
        → option_map dec_value (cond b (Some e.value) (at_row i es))
        ≡ cond b (Some (dec_value e.value)) (at_row i (map (entry_with dec_value) es))
    by true h = refl
    by false h = h

pub right_side : (m : Mps Dec) (row : ℕ) (o : Option Dec) (z : Dec) → o ≡ at_row row m.rhs → dec_value z ≡ or_zero (option_map dec_value o) → dec_value z ≡ rhs_at (values_of m) row
unfolding with_values
right_side m row o z h g = g ∙ ap or_zero (ap (option_map dec_value) h ∙ at_values row m.rhs)

module _ (m : Mps Dec) (i : ℕ) (kind : RowKind) (rhs range : Option Dec) (k : kind ≡ (get_or m.rows i no_mps_row).kind) (h : rhs ≡ at_row i m.rhs) (g : range ≡ at_row i m.ranges) where
  rhs_is : or_zero (option_map dec_value rhs) ≡ rhs_at (values_of m) i
  unfolding with_values
  rhs_is = ap or_zero (ap (option_map dec_value) h ∙ at_values i m.rhs)

  range_is : option_map dec_value range ≡ at_row i (values_of m).ranges
  unfolding with_values
  range_is = ap (option_map dec_value) g ∙ at_values i m.ranges

  pub row_wide : is_range_wide kind (or_zero (option_map dec_value rhs)) (option_map dec_value range) ≡ is_row_wide m i
  row_wide = λ p. is_range_wide (k p) (rhs_is p) (range_is p)

  pub row_side : sides_from (row_sides kind (or_zero (option_map dec_value rhs)) (option_map dec_value range)) ≡ sides_from (row_interval (values_of m) i)
  unfolding with_values
  row_side = λ p. sides_from (row_sides (k p) (rhs_is p) (range_is p))

-- a list of what stands at places, with one place more
pub place_pushed : {A : Type 0} (f : ℕ → A) (test : ℕ → Bool) (i : ℕ) (xs new : List A) (b : Bool) (x : A)
    → xs ≡ map f (places test i) → b ≡ test i → x ≡ f i → new ≡ xs ++ cond b (x ∷ []) []
    → new ≡ map f (places test (i + 1))
place_pushed f test i xs new b x h e g n =
    n ∙ (λ p. h p ++ cond (e p) (g p ∷ []) []) ∙ ap (λ ys. map f (places test i) ++ ys) (one (test i))
    ∙ sym (map-append f (places test i) (one_where (test i) i)) ∙ ap (map f) (sym (places_more test i))
  where
    one : (b : Bool) → cond b (f i ∷ []) [] ≡ map f (one_where b i)
    one true = refl
    one false = refl

-- ---- columns
pub column_is : (m : Mps Dec) (j : ℕ) (c : ColumnSides) (s : Sides) → (sides_value c, c.whole) ≡ sets_of j m.bounds
    → interval_of s ≡ interval_set (sides_value c) → s ≡ sides_from (column_interval (values_of m) j)
unfolding with_values
column_is m j c s e h = sides_of s (interval_set (sides_value c)) h ∙ ap (λ (t : SetSides × Bool). sides_from (interval_set t.0)) e

pub kind_is : (m : Mps Dec) (j : ℕ) (column : Column Dec) (c : ColumnSides) (marked : Bool) (s : Sides) (kind : Kind)
    → j < length m.columns → column ≡ get_or m.columns j column → marked ≡ column.marked
    → (sides_value c, c.whole) ≡ sets_of j m.bounds → interval_of s ≡ interval_set (sides_value c)
    → kind ≡ kind_by (marked || c.whole) (are_zero_to_one (interval_of s).lower (interval_of s).upper)
    → kind ≡ column_kind m j
unfolding with_values
kind_is m j column c marked s kind lt read mark e h k =
    let same : marked ≡ (column_at (values_of m) j).marked =
    mark ∙ ap (λ c. c.marked) (read ∙ get_or_default m.columns j column no_column lt)
    ∙ sym (ap (λ c. c.marked) (get_or-map-any (column_with dec_value) m.columns j no_column)) in
    let sides : interval_of s ≡ column_interval (values_of m) j = h ∙ ap (λ (t : SetSides × Bool). interval_set t.0) e in
    k ∙ (λ p. kind_by (same p || (e p).1) (are_zero_to_one (sides p).lower (sides p).upper))
