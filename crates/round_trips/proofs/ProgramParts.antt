-- The entries, ranges and bounds of a program stand in its rows and columns, none of them twice.
use Rattle.std.proofs.Common.{◌≡◌, ◌≢◌, ℕ, suc, ◌+◌, ◌<◌, ◌≤◌, Bool, true, false, cond, IsTrue, List, [], ◌∷◌, ◌++◌, length, get_or, Option, Some, None, refl, arith}
use Rattle.std.specs.Prelude.{All, IfSome}
use Rattle.std.specs.List.{AllPairs}
use Rattle.std.proofs.lemmas.List.Elements.{All-nil, All-cons, All-weaker, All-head, All-tail}
use Rattle.std.proofs.lemmas.List.Kept.{AllPairs-cons}
use Rattle.exact_numbers.specs.Rational.{ℚ, zero_ℚ, ◌-ℚ◌}
use Rattle.exact_numbers.specs.Values.{FitsDec}
use Rattle.linear_program.specs.Linear.{Form, Row, Variable, no_row}
use Rattle.mps_model.specs.declared.kinds.BoundKind.TheVariants.{Lo, Up, Fx, Fr, Mi, Pl}
use Rattle.mps_model.specs.Mps.{Entry, Column, Bound}
use Rattle.mps_model.specs.Valid.{AreEntries, IsOtherBound, IsWithoutNumber, SetOtherSides}
use Rattle.scaled_program.specs.Program.{ScaledRow, nonzero, exported_rows, scaled_row, is_exported}
use Rattle.scaled_program.specs.ExportedProgram.{with_entry, entries_of, or_obj_zero, column_entries, columns_of, bound_record, fixed_or_both, column_bounds, bounds_of}
use Rattle.exact_numbers.proofs.Fitting.{zero_fits}
use Rattle.round_trips.specs.Exportable.{HasDecimalBounds}

-- ---- entries

-- in rows from i to n - 1, each after the one before it
abbrev pub AreFrom : ℕ → ℕ → List (Entry ℚ) → Type 0
AreFrom i n [] = Unit {0}
AreFrom i n (e ∷ es) = (i ≤ e.row) × (e.row < n) × AreFrom (suc e.row) n es

pub from_less : (i k n : ℕ) (es : List (Entry ℚ)) → i ≤ k → AreFrom k n es → AreFrom i n es
from_less i k n [] le h = tt
from_less i k n (e ∷ es) le h = (omega (arith, le, h.0), h.1, h.2)

pub entries_from : (g : ScaledRow → Option ℚ) (i n : ℕ) (rows : List ScaledRow) → i + length rows ≡ n → AreFrom i n (entries_of g i rows)
unfolding entries_of
entries_from g i n [] e = tt
entries_from g i n (r ∷ rows) e = by (g r) (entries_from g (suc i) n rows (omega (arith, e)))
  where
    by : (o : Option ℚ) → AreFrom (suc i) n (entries_of g (suc i) rows) → AreFrom i n (with_entry i o (entries_of g (suc i) rows))
    by None h = from_less i (suc i) n (entries_of g (suc i) rows) (omega arith) h
    by (Some v) h = (omega arith, omega (arith, e), h)

pub all_from : (i n : ℕ) (es : List (Entry ℚ)) → AreFrom i n es → All (λ e. (i ≤ e.row) × (e.row < n)) es
all_from i n [] h = All-nil (λ e. (i ≤ e.row) × (e.row < n))
all_from i n (e ∷ es) h =
    All-cons (λ e. (i ≤ e.row) × (e.row < n)) e es (h.0, h.1)
    (All-weaker (λ g. (suc e.row ≤ g.row) × (g.row < n)) (λ g. (i ≤ g.row) × (g.row < n)) (λ g k. (omega (arith, h.0, k.0), k.1)) es (all_from (suc e.row) n es h.2))

from_apart : (i n : ℕ) (es : List (Entry ℚ)) → AreFrom i n es → AllPairs (λ e g. e.row ≢ g.row) es
from_apart i n [] h = λ a b d lt within. absurd (omega arith)
from_apart i n (e ∷ es) h =
    AllPairs-cons (λ (e g : Entry ℚ). e.row ≢ g.row) e es
    (All-weaker (λ g. (suc e.row ≤ g.row) × (g.row < n)) (λ g. e.row ≢ g.row) (λ g k same. absurd (omega (arith, k.0, same))) es (all_from (suc e.row) n es h.2))
    (from_apart (suc e.row) n es h.2)

pub are_entries : (i n : ℕ) (es : List (Entry ℚ)) → AreFrom i n es → AreEntries n es
are_entries i n es h = record {
  within = All-weaker (λ e. (i ≤ e.row) × (e.row < n)) (λ e. e.row < n) (λ e k. k.1) es (all_from i n es h);
  apart = from_apart i n es h;
}

-- an entry of the objective before those of the rows
pub objective_first : (o : Option ℚ) (g : ScaledRow → Option ℚ) (rows : List ScaledRow) → AreFrom 0 (1 + length rows) (with_entry 0 o (entries_of g 1 rows))
objective_first None g rows = from_less 0 1 (1 + length rows) (entries_of g 1 rows) (omega arith) (entries_from g 1 (1 + length rows) rows refl)
objective_first (Some v) g rows = (omega arith, omega arith, entries_from g 1 (1 + length rows) rows refl)

filled : (n : ℕ) (es : List (Entry ℚ)) → 0 < n → AreFrom 0 n es → AreFrom 0 n (or_obj_zero es)
filled n [] some h = (omega arith, some, tt)
filled n (e ∷ es) some h = h

pub column_from : (objective : Form) (rows : List ScaledRow) (j : ℕ) → AreFrom 0 (1 + length rows) (column_entries objective rows j)
column_from objective rows j =
    filled (1 + length rows) (with_entry 0 (nonzero (objective.coefficient j)) (entries_of (λ r. nonzero (r.coefficient j)) 1 rows)) (omega arith)
    (objective_first (nonzero (objective.coefficient j)) (λ r. nonzero (r.coefficient j)) rows)

pub some_entry : (es : List (Entry ℚ)) → 0 < length (or_obj_zero es)
some_entry [] = omega arith
some_entry (e ∷ es) = omega arith

-- ---- columns and rows

-- columns of variables with Q, of which the first is column j
pub columns_all : (P : Column ℚ → Type 0) (Q : Variable → Type 0) (objective : Form) (rows : List ScaledRow) (j : ℕ) (vs : List Variable)
    → ((k : ℕ) (v : Variable) → k < j + length vs → Q v → P (record { name = v.name; marked = v.whole; entries = column_entries objective rows k })) → All Q vs → All P (columns_of objective rows j vs)
unfolding columns_of
columns_all P Q objective rows j [] h all = All-nil P
columns_all P Q objective rows j (v ∷ vs) h all =
    All-cons P (record { name = v.name; marked = v.whole; entries = column_entries objective rows j }) (columns_of objective rows (suc j) vs) (h j v (omega arith) (All-head Q v vs all))
    (columns_all P Q objective rows (suc j) vs (λ k w lt. h k w (omega (arith, lt))) (All-tail Q v vs all))

-- exported rows, of which the first is row i
pub exported_all : (P : ScaledRow → Type 0) (factor : ℕ → ℕ) (i : ℕ) (rs : List Row)
    → ((j k : ℕ) → k ≡ i + j → j < length rs → IsTrue (is_exported (get_or rs j no_row)) → P (scaled_row (factor k) (get_or rs j no_row))) → All P (exported_rows factor i rs)
unfolding exported_rows
exported_all P factor i [] h = All-nil P
exported_all P factor i (r ∷ rs) h = by (is_exported r) refl (exported_all P factor (suc i) rs (λ j k e lt is. h (suc j) k (omega (arith, e)) (omega (arith, lt)) is))
  where
    rest : List ScaledRow
    rest = exported_rows factor (suc i) rs

    by : (there : Bool) → is_exported r ≡ there → All P rest → All P (cond there (scaled_row (factor i) r ∷ rest) rest)
    by true e more = All-cons P (scaled_row (factor i) r) rest (h 0 i (omega arith) (omega arith) e) more
    by false e more = more

-- ---- bounds

abbrev IsOther : Bound ℚ → Bound ℚ → Type 0
IsOther b c = IsOtherBound c.kind c.column b

-- bounds of columns from j to n - 1
pub record AreBoundsFrom (j n : ℕ) (bs : List (Bound ℚ)) : Type 0 where
  pub within : All (λ b. (j ≤ b.column) × (b.column < n)) bs
  pub apart : AllPairs (λ b c. IsOtherBound c.kind c.column b) bs
  pub zeros : All (λ b. IsWithoutNumber b.kind → b.value ≡ zero_ℚ) bs
  pub decimal : All (λ b. FitsDec b.value) bs

abbrev IsIn : ℕ → ℕ → Bound ℚ → Type 0
IsIn j n b = (j ≤ b.column) × (b.column < n)

no_bounds : (j n : ℕ) → AreBoundsFrom j n []
no_bounds j n = record {
  within = All-nil (IsIn j n);
  apart = λ a b d lt within. absurd (omega arith);
  zeros =
      All-nil (λ b. IsWithoutNumber b.kind → b.value ≡ zero_ℚ);
  decimal = All-nil (λ b. FitsDec b.value);
}

-- a record of column j before records that set other sides of it or are of later columns
record IsFirst (j : ℕ) (b : Bound ℚ) (bs : List (Bound ℚ)) : Type 0 where
  column : b.column ≡ j
  other : All (IsOther b) bs
  nought : IsWithoutNumber b.kind → b.value ≡ zero_ℚ
  fits : FitsDec b.value

one_more : (j n : ℕ) (b : Bound ℚ) (bs : List (Bound ℚ)) → j < n → IsFirst j b bs → AreBoundsFrom j n bs → AreBoundsFrom j n (b ∷ bs)
one_more j n b bs lt f h = record {
  within = All-cons (IsIn j n) b bs (omega (arith, f.column), omega (arith, f.column, lt)) h.within;
  apart = AllPairs-cons IsOther b bs f.other h.apart;
  zeros = All-cons (λ (c : Bound ℚ). IsWithoutNumber c.kind → c.value ≡ zero_ℚ) b bs f.nought h.zeros;
  decimal = All-cons (λ (c : Bound ℚ). FitsDec c.value) b bs f.fits h.decimal;
}

from_later : (j n : ℕ) (bs : List (Bound ℚ)) → AreBoundsFrom (suc j) n bs → AreBoundsFrom j n bs
from_later j n bs h = record { within = All-weaker (IsIn (suc j) n) (IsIn j n) (λ b k. (omega (arith, k.0), k.1)) bs h.within; apart = h.apart; zeros = h.zeros; decimal = h.decimal }

-- a record of column j sets no side that a record of a later column sets
before : (j n : ℕ) (b : Bound ℚ) (bs : List (Bound ℚ)) → b.column ≡ j → AreBoundsFrom (suc j) n bs → All (IsOther b) bs
before j n b bs e h = All-weaker (IsIn (suc j) n) (IsOther b) (λ c k same. absurd (omega (arith, k.0, e, same))) bs h.within

alone : (j n : ℕ) (b : Bound ℚ) (bs : List (Bound ℚ)) → j < n → b.column ≡ j → (IsWithoutNumber b.kind → b.value ≡ zero_ℚ) → FitsDec b.value → AreBoundsFrom (suc j) n bs → AreBoundsFrom j n (b ∷ bs)
alone j n b bs lt e nought fits h = one_more j n b bs lt (record { column = e; other = before j n b bs e h; nought = nought; fits = fits }) (from_later j n bs h)

both : (j n : ℕ) (b c : Bound ℚ) (bs : List (Bound ℚ)) → j < n → b.column ≡ j → c.column ≡ j
    → SetOtherSides b.kind c.kind → (IsWithoutNumber b.kind → b.value ≡ zero_ℚ)
    → (IsWithoutNumber c.kind → c.value ≡ zero_ℚ) → FitsDec b.value → FitsDec c.value
    → AreBoundsFrom (suc j) n bs → AreBoundsFrom j n (b ∷ c ∷ bs)
both j n b c bs lt e g others zero_b zero_c fits_b fits_c h =
    one_more j n b (c ∷ bs) lt
    (record { column = e; other = All-cons (IsOther b) c bs (λ same. others) (before j n b bs e h); nought = zero_b; fits = fits_b })
    (alone j n c bs lt g zero_c fits_c h)

fixed : (j n : ℕ) (l u : ℚ) (o : Option ℚ) (bs : List (Bound ℚ)) → j < n → FitsDec l → FitsDec u → AreBoundsFrom (suc j) n bs → AreBoundsFrom j n (fixed_or_both j l u o ++ bs)
fixed j n l u None bs lt fl fu h = alone j n (bound_record Fx j l) bs lt refl (λ none. absurd none) fl h
fixed j n l u (Some r) bs lt fl fu h = both j n (bound_record Lo j l) (bound_record Up j u) bs lt refl refl (record { lower = refl; upper = refl }) (λ none. absurd none) (λ none. absurd none) fl fu h

column_bounds_from : (j n : ℕ) (l u : Option ℚ) (bs : List (Bound ℚ)) → j < n → IfSome l FitsDec → IfSome u FitsDec → AreBoundsFrom (suc j) n bs → AreBoundsFrom j n (column_bounds j l u ++ bs)
column_bounds_from j n None None bs lt fl fu h = alone j n (bound_record Fr j zero_ℚ) bs lt refl (λ free. refl) zero_fits h
column_bounds_from j n None (Some u) bs lt fl fu h = both j n (bound_record Mi j zero_ℚ) (bound_record Up j u) bs lt
    refl refl (record { lower = refl; upper = refl }) (λ free. refl) (λ none. absurd none) zero_fits fu h
column_bounds_from j n (Some l) None bs lt fl fu h = both j n (bound_record Lo j l) (bound_record Pl j zero_ℚ) bs lt
    refl refl (record { lower = refl; upper = refl }) (λ none. absurd none) (λ free. refl) fl zero_fits h
column_bounds_from j n (Some l) (Some u) bs lt fl fu h = fixed j n l u (nonzero (u -ℚ l)) bs lt fl fu h

pub bounds_from : (j n : ℕ) (vs : List Variable) → j + length vs ≡ n → All HasDecimalBounds vs → AreBoundsFrom j n (bounds_of j vs)
unfolding bounds_of
bounds_from j n [] e h = no_bounds j n
bounds_from j n (v ∷ vs) e h =
    let own = All-head HasDecimalBounds v vs h in
    column_bounds_from j n v.bound.lower v.bound.upper (bounds_of (suc j) vs) (omega (arith, e)) own.lower own.upper
    (bounds_from (suc j) n vs (omega (arith, e)) (All-tail HasDecimalBounds v vs h))
