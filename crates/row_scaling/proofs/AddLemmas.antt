use Rattle.std.proofs.Common.{◌≡◌, ◌≢◌, ℕ, zero, suc, ◌+◌, ◌<◌, ◌≤◌, ◌^◌, ◌∙◌, sym, ap, refl, arith, subst, Bool, List}
use Rattle.std.proofs.Common.{[], ◌∷◌, length, drop, get_or, All, map, ap₂, cond, nat_eq, true, false, ⊎_elim, ◌++◌}
use Rattle.std.proofs.Common.{append_assoc, append-nil, Option, Some, None, length-append, add-one, ◌-◌, IsTrue, IfSome}
use Rattle.std.specs.Prelude.{is_some, ◌||◌}
use Rattle.std.specs.List.{AllPairs}
use Rattle.std.proofs.lemmas.List.{get_or-map, length-map, map-append, drop_all, get_or_default}
use Rattle.std.proofs.lemmas.List.Elements.{All-cons, All-map, All-nil, All-push, All-append}
use Rattle.mps_model.specs.Mps.{Entry, Mps, MpsRow, entry_with, Bound, bound_with, Column, column_with, with_values, no_mps_row, objective_row}
use Rattle.mps_model.specs.Built.{CanAddEntries, entry_of, CanAddRow}
use Rattle.mps_model.specs.Valid.{entry_count, IsOtherRow, marker_word, IsOtherColumn, HasEntries, IsBounded, IsComplete}
use Rattle.exact_numbers.specs.declared.dec.Dec.{Dec}
use Rattle.linear_program.specs.Decimals.{DecimalTerm as TermOf}
use Rattle.row_scaling.specs.InsideFilling.{or_first, column_from, with_column, AreRising, AreBoundsAdded, AreBoundsOf}
use Rattle.std.proofs.lemmas.Bool.{cases_eq, eq-eqb, ne_eqb}
use Rattle.std.specs.Fmt.{decimal}
use Rattle.std.proofs.lemmas.Fmt.{decimal_injective}
use Rattle.exact_numbers.specs.Rational.{ℚ, zero_ℚ, ◌-ℚ◌, neg_ℚ}
use Rattle.text_base.specs.Names.{IsName}
use Rattle.mps_model.specs.declared.kinds.RowKind.{RowKind}
use Rattle.scaled_program.specs.Program.{ScaledRow, zdef_name, nonzero, z_name}
use Rattle.scaled_program.specs.ExportedProgram.{kind_of_row, mps_row, with_entry, entries_of, bounds_of, bound_record}
use Rattle.scaled_program.specs.ExportedProgram.{column_bounds, fixed_or_both, columns_of, column_entries, or_obj_zero}
use Rattle.scaled_program.specs.ExportedProgram.{two_sided, obj_name, nl_name, mps_of}
use Rattle.exact_numbers.specs.Values.{dec_value}
use Rattle.linear_program.specs.Names.{row_name, variable_name}
use Rattle.row_scaling.specs.Scaled.{ScaledValue, IsScaled, IsRowOver}
use Rattle.row_scaling.specs.Parts.{name_in, row_named, rows_in, column_count, tied_bounds, tied_count, tied_kinds, AreProgramRows}
use Rattle.row_scaling.specs.declared.row.FactoredRow.{FactoredRow}
use Rattle.row_scaling.specs.Rows.{side_value}
use Rattle.row_scaling.specs.Exported.{program_rows, tied_variables, program_variables, program_objective, scaled_as}
use Rattle.row_scaling.specs.InsideSides.{IsEntryAdded, right_side_of, range_in}
use Rattle.row_scaling.proofs.ColumnLemmas.{Rows, left, left_some, left_end, entries_more, entries_none, entry_front}
use Rattle.linear_program.specs.Linear.{Variable, unbounded, Form}
use Rattle.mps_model.specs.declared.kinds.BoundKind.TheVariants.{Lo, Up, Fx, Fr, Mi, Pl}
use Rattle.linear_program.specs.declared.interval.Interval.{Interval}
use Rattle.linear_program.specs.declared.kind.Kind.{Kind}
use Rattle.linear_program.specs.declared.kind.Kind.TheVariants.{Continuous}
use Rattle.linear_program.specs.Programs.{variables_from}
use Rattle.linear_program.specs.Intervals.{is_whole_kind, interval_of, no_sides}
use Rattle.linear_program.proofs.ListLemmas.{rest_of}
use Rattle.row_scaling.specs.declared.row.Tie.{Tie}
use Rattle.row_scaling.specs.InsideColumns.{column_in, entry_value, entries_in_column, total_of}
use Rattle.row_scaling.proofs.TieLemmas.{no_difference}
use Rattle.scaled_program.proofs.Sides.{nonzero_cases, difference_zero}
use Rattle.std.proofs.lemmas.List.Kept.{AllPairs-cons}
use Rattle.std.proofs.lemmas.List.Sums.{sum_by-cons, sum_by-append}
use Rattle.row_scaling.specs.InsideFilled.{AreFilled}
use Rattle.mps_model.specs.declared.kinds.RowKind.TheVariants.{N}

filled_entries : (z : Dec) (ts : List TermOf) → map entry_of (or_first (0, z) ts) ≡ or_first (record { row = 0; value = z }) (map entry_of ts)
filled_entries z [] = refl
filled_entries z (t ∷ ts) = refl

-- the column of the entries that it is filled with
pub filled_column : (old now : Mps Dec) (name : List ℕ) (marked : Bool) (ts us : List TermOf) (z : Dec) → us ≡ or_first (0, z) ts →
    now ≡ with_column old (record { name = name; marked = marked; entries = map entry_of us }) → now ≡ with_column old (column_from name marked ts z)
filled_column old now name marked ts us z e is = is ∙ ap (λ es. with_column old (record { name = name; marked = marked; entries = es })) (ap (map entry_of) e ∙ filled_entries z ts)

filled_length : {A : Type 0} (e : A) (es : List A) → (0 < length (or_first e es)) × (length (or_first e es) ≤ length es + 1)
filled_length e [] = (omega arith, omega arith)
filled_length e (d ∷ ds) = (omega arith, omega arith)

-- ---- when entries may be added
rows_apart : (ts : List TermOf) → AllPairs (λ s t. s.0 < t.0) ts → AllPairs (λ (e g : Entry Dec). e.row ≢ g.row) (map entry_of ts)
rows_apart ts h i j d l m = λ same.
    let t : TermOf = (0, d.value) in
    let size : length (map entry_of ts) ≡ length ts = length-map ts entry_of in
    let right : j < length ts = omega (arith, m, size) in
    let first = ap (λ (e : Entry Dec). e.row) (get_or-map entry_of ts i t d (omega (arith, l, right))) in
    let second = ap (λ (e : Entry Dec). e.row) (get_or-map entry_of ts j t d right) in
    omega (arith, h i j t l right, first, second, same)

filled_rising : (n : ℕ) (z : Dec) (ts : List TermOf) → 0 < n → AreRising n ts → AreRising n (or_first (0, z) ts)
filled_rising n z [] some h =
    let P : TermOf → Type 0 = λ t. t.0 < n in record { within = All-cons P (0, z) [] some (All-nil P); rising = λ i j d l m. absurd (omega arith) }
filled_rising n z (t ∷ ts) some h = h

pub can_add : (old : Mps Dec) (ts us : List TermOf) (z : Dec) → us ≡ or_first (0, z) ts → 0 < length old.rows
    → AreRising (length old.rows) ts → entry_count old.columns + length ts < 2 ^ 24 → CanAddEntries old us
can_add old ts us z e some h few =
    let r : AreRising (length old.rows) us = subst (AreRising (length old.rows)) (sym e) (filled_rising (length old.rows) z ts some h) in
    record {
      few = omega (arith, few, (filled_length (0, z) ts).1, ap length e);
      rows = record { within = All-map (λ (e : Entry Dec). e.row < length old.rows) entry_of us r.within; apart = rows_apart us r.rising };
    }

-- ---- the columns that are left

-- ---- names
pub names_apart : (letter : ℕ) (word : List ℕ) (n i k : ℕ) → (get_or word 0 0 ≡ letter → ⊥) → i < k → k ≤ n → n < 2 ^ 32
    → cond (nat_eq i n) word (letter ∷ decimal i) ≢ cond (nat_eq k n) word (letter ∷ decimal k)
names_apart letter word n i k other less within small e =
    let f : letter ∷ decimal i ≡ cond (nat_eq k n) word (letter ∷ decimal k) = ap (λ b. cond b word (letter ∷ decimal i)) (sym (ne_eqb i n (λ g. omega (arith, g)))) ∙ e in
    ⊎_elim
    (λ (g : k ≡ n). other (sym (ap (λ t. get_or t 0 0) (f ∙ ap (λ b. cond b word (letter ∷ decimal k)) (eq-eqb k n g)))))
    (λ (g : k ≡ n → ⊥).
    let same = decimal_injective i k (omega arith) (omega arith) (ap (drop 1) (f ∙ ap (λ b. cond b word (letter ∷ decimal k)) (ne_eqb k n g))) in
    omega (arith, same))
    (cases_eq k n)

pub one_is_name : (b : Bool) (x y name : List ℕ) → name ≡ cond b x y → IsName x → IsName y → IsName name
one_is_name true x y name e first second = subst IsName (sym e) first
one_is_name false x y name e first second = subst IsName (sym e) second

-- no row is named by a word that begins with another letter
pub row_name_other : (n i : ℕ) (name : List ℕ) → (get_or name 0 0 ≡ 99 → ⊥) → (get_or name 0 0 ≡ 122 → ⊥) → name_in n i ≢ name
row_name_other n i name c z e =
    elim (nat_eq i n) as (λ b. cond b zdef_name (row_name i) ≡ name → ⊥) [ true ↦ λ e. z (sym (ap (λ t. get_or t 0 0) e)) | false ↦ λ e. c (sym (ap (λ t. get_or t 0 0) e)) ] e

-- ---- rows
rows_short : (name : ℕ → List ℕ) (i : ℕ) (rows : Rows) → length (rows_in name i rows) ≤ length rows
rows_short name i [] = omega arith
rows_short name i (None ∷ rows) = omega (arith, rows_short name (suc i) rows)
rows_short name i (Some r ∷ rows) = omega (arith, rows_short name (suc i) rows)

module _ (n : ℕ) (rows : Rows) (old : Mps Dec) where
  pub record AreRowsLeft (now : Mps Dec) (i : ℕ) : Type 0 where
    pub only : now ≡ record old { rows = now.rows }
    pub all : now.rows ++ map mps_row (left (name_in n) rows i) ≡ old.rows ++ map mps_row (left (name_in n) rows 0)
    pub other : (k : ℕ) → i ≤ k → k ≤ n → All (IsOtherRow (name_in n k)) now.rows

  pub row_put : (now new : Mps Dec) (i : ℕ) (o : Option FactoredRow) (r : FactoredRow) (name : List ℕ) (kind : RowKind)
      → AreRowsLeft now i → n < 2 ^ 32 → i < length rows → o ≡ get_or rows i o → o ≡ Some r →
      name ≡ name_in n i → kind ≡ kind_of_row (side_value r.row.side.lo) (side_value r.row.side.hi)
      → new ≡ record now { rows = now.rows ++ record { name = name; kind = kind } ∷ [] } → AreRowsLeft new (i + 1)
  row_put now new i o r name kind a small h is some same k e =
      let row : MpsRow = record { name = name; kind = kind } in
      let known : row ≡ mps_row (row_named (name_in n i) r.row) = ap₂ (λ n k. record { name = n; kind = k }) same k in
      let more : new.rows ≡ now.rows ++ row ∷ [] = ap (λ (m : Mps Dec). m.rows) e in
      record {
        only = e ∙ ap (λ (m : Mps Dec). record m { rows = now.rows ++ row ∷ [] }) a.only ∙ ap (λ rs. record old { rows = rs }) (sym more);
        all =
            ap (λ rs. rs ++ map mps_row (left (name_in n) rows (i + 1))) more
            ∙ append_assoc now.rows (row ∷ []) (map mps_row (left (name_in n) rows (i + 1)))
            ∙ ap (λ x. now.rows ++ x ∷ map mps_row (left (name_in n) rows (i + 1))) known
            ∙ ap (λ rs. now.rows ++ map mps_row rs) (sym (left_some (name_in n) rows i o r h is some))
            ∙ a.all;
        other = λ k l m. subst (All (IsOtherRow (name_in n k))) (sym more)
            (All-push (IsOtherRow (name_in n k)) now.rows row (a.other k (omega arith) m) (λ f. names_apart 99 zdef_name n i k (λ z. omega (arith, z)) (omega arith) m small (sym same ∙ f)));
      }

  pub can_put_row : (now : Mps Dec) (i : ℕ) (o : Option FactoredRow) (r : FactoredRow) (name : List ℕ) → AreRowsLeft now i → i < length rows → length rows ≤ n + 1 → o ≡ get_or rows i o → o ≡ Some r →
      length old.rows + length rows < 2 ^ 21 → name ≡ name_in n i → CanAddRow now name
  can_put_row now i o r name a h short is some few same =
      let counts : length now.rows + length (left (name_in n) rows i) ≡ length old.rows + length (left (name_in n) rows 0) =
      omega (
        arith,
        length-append now.rows (map mps_row (left (name_in n) rows i)),
        length-append old.rows (map mps_row (left (name_in n) rows 0)),
        length-map (left (name_in n) rows i) mps_row,
        length-map (left (name_in n) rows 0) mps_row,
        ap length a.all,
      ) in
      let one : length (left (name_in n) rows i) ≡ 1 + length (left (name_in n) rows (i + 1)) = ap length (left_some (name_in n) rows i o r h is some) ∙ omega arith in
      record {
        few = omega (arith, counts, one, few, rows_short (name_in n) 0 rows);
        no_marker = λ e. row_name_other n i marker_word (λ z. omega (arith, z)) (λ z. omega (arith, z)) (sym same ∙ e);
        new = subst (λ t. All (IsOtherRow t) now.rows) (sym same) (a.other i (omega arith) (omega (arith, h, short)));
      }

-- ---- right sides and ranges
pub rhs_only : (old now new : Mps Dec) → now ≡ record old { rhs = now.rhs } → new ≡ record now { rhs = new.rhs } → new ≡ record old { rhs = new.rhs }
rhs_only old now new a e = e ∙ ap (λ (m : Mps Dec). record m { rhs = new.rhs }) a

pub ranges_only : (old now new : Mps Dec) → now ≡ record old { ranges = now.ranges } → new ≡ record now { ranges = new.ranges } → new ≡ record old { ranges = new.ranges }
ranges_only old now new a e = e ∙ ap (λ (m : Mps Dec). record m { ranges = new.ranges }) a

module _ (g : ScaledRow → Option ℚ) (name : ℕ → List ℕ) (rows : Rows) (old : List (Entry Dec)) where
  pub record AreEntriesLeft (now : List (Entry Dec)) (p i : ℕ) : Type 0 where
    pub low : p ≤ i + 1
    pub some : 0 < p
    pub place : p + length (left name rows i) ≡ 1 + length (left name rows 0)
    pub value : map (entry_with dec_value) now ++ entries_of g p (left name rows i) ≡ map (entry_with dec_value) old ++ entries_of g 1 (left name rows 0)
    pub before : All (λ e. e.row < p) now

  pub entry_put : (now new : List (Entry Dec)) (p i : ℕ) (o : Option FactoredRow) (r : FactoredRow) (v : Option ℚ) → AreEntriesLeft now p i → i < length rows → o ≡ get_or rows i o → o ≡ Some r →
      v ≡ g (row_named (name i) r.row) → IsEntryAdded p v now new → AreEntriesLeft new (p + 1) (i + 1)
  entry_put now new p i o r v a h is some same b =
      let e = left_some name rows i o r h is some in
      let count : length (left name rows i) ≡ 1 + length (left name rows (i + 1)) = ap length e ∙ omega arith in
      let before = map (entry_with dec_value) now in
      let after = entries_of g (p + 1) (left name rows (i + 1)) in
      record {
        low = omega (arith, a.low);
        some = omega arith;
        place = omega (arith, count, a.place);
        value =
            ap (λ es. es ++ after) b.value
            ∙ append_assoc before (with_entry p v []) after
            ∙ ap (λ es. before ++ es) (entry_front p v after ∙ ap (λ o. with_entry p o after) same
            ∙ sym (entries_more g p (row_named (name i) r.row) (left name rows (i + 1)))
            ∙ ap (entries_of g p) (sym e))
            ∙ a.value;
        before = b.before;
      }

  pub there_is_place : (now : List (Entry Dec)) (p i : ℕ) (o : Option FactoredRow) (r : FactoredRow)
      → AreEntriesLeft now p i → i < length rows → o ≡ get_or rows i o → o ≡ Some r → p < 1 + length (left name rows 0)
  there_is_place now p i o r a h is some =
      let count : length (left name rows i) ≡ 1 + length (left name rows (i + 1)) = ap length (left_some name rows i o r h is some) ∙ omega arith in
      omega (arith, count, a.place)

  pub entries_put : (s : ScaledValue) (now : List (Entry Dec)) (p i : ℕ) → AreEntriesLeft now p i → i ≡ length rows
      → rows_in name 0 rows ≡ program_rows s → map (entry_with dec_value) now
      ≡ map (entry_with dec_value) old ++ entries_of g 1 (program_rows s)
  entries_put s now p i a e named =
      sym (append-nil (map (entry_with dec_value) now))
      ∙ ap (λ es. map (entry_with dec_value) now ++ es) (sym (ap (entries_of g p) (left_end name rows i e) ∙ entries_none g p))
      ∙ a.value
      ∙ ap (λ rs. map (entry_with dec_value) old ++ entries_of g 1 rs) named

-- ---- the variables of a program in order, that of a tie last
abbrev pub variable_of : ℕ → ℕ → Interval → Kind → Variable
variable_of n j b k = record { name = column_in n j; bound = interval_of b; whole = is_whole_kind k }

variable_there : (n i j : ℕ) (bs : List Interval) (ks : List Kind) (t : Option Tie) (d : Variable) → i + length bs ≡ n → length ks ≡ length bs → j < length bs + tied_count t →
    get_or (variables_from i bs ks ++ tied_variables t) j d ≡ variable_of n (i + j) (get_or (bs ++ tied_bounds t) j no_sides) (get_or (ks ++ tied_kinds t) j Continuous)
variable_there n i zero [] [] (Some t) d e same h = ap (λ x. record { name = cond x z_name (variable_name (i + 0)); bound = unbounded; whole = false }) (sym (eq-eqb (i + 0) n (omega (arith, e))))
variable_there n i zero (b ∷ bs) (k ∷ ks) t d e same h =
    ap₂ (λ x m. record { name = cond x z_name (variable_name m); bound = interval_of b; whole = is_whole_kind k })
    (sym (ne_eqb (i + 0) n (λ f. omega (arith, e, f)))) (let g : i ≡ i + 0 = omega arith in g)
variable_there n i (suc j) (b ∷ bs) (k ∷ ks) t d e same h =
    variable_there n (suc i) j bs ks t d (omega (arith, e)) (omega (arith, same)) (omega (arith, h))
    ∙ ap (λ m. variable_of n m (get_or (bs ++ tied_bounds t) j no_sides) (get_or (ks ++ tied_kinds t) j Continuous)) (let g : suc i + j ≡ i + suc j = omega arith in g)
variable_there n i (suc j) [] [] (Some t) d e same h = absurd (omega arith)
variable_there n i j bs ks t d e same h = absurd (omega (arith, same, h))

variables_count : (i : ℕ) (bs : List Interval) (ks : List Kind) (t : Option Tie) → length ks ≡ length bs → length (variables_from i bs ks ++ tied_variables t) ≡ length bs + tied_count t
variables_count i [] ks None same = refl
variables_count i [] ks (Some t) same = refl
variables_count i (b ∷ bs) (k ∷ ks) t same = ap suc (variables_count (suc i) bs ks t (omega (arith, same))) ∙ omega arith
variables_count i bs ks t same = absurd (omega (arith, same))

-- the variables from variable j on
abbrev pub left_variables : ScaledValue → ℕ → List Variable
left_variables s j = drop j (program_variables s)

module _ (s : ScaledValue) where
  abbrev pub column_sides : List Interval
  column_sides = s.bounds ++ tied_bounds s.tie

  abbrev pub all_kinds : List Kind
  all_kinds = s.kinds ++ tied_kinds s.tie

module _ (s : ScaledValue) (h : IsScaled s) where
  sides_count : length (column_sides s) ≡ column_count s
  sides_count = length-append s.bounds (tied_bounds s.tie) ∙ ap (λ n. length s.bounds + n) (by s.tie)
    where
      by : (t : Option Tie) → length (tied_bounds t) ≡ tied_count t
      by None = refl
      by (Some t) = refl

  pub all_variables : length (program_variables s) ≡ column_count s
  all_variables = variables_count 0 s.bounds s.kinds s.tie h.kinds

  pub variable_at : (j : ℕ) (d : Variable) → j < column_count s
      → get_or (program_variables s) j d ≡ variable_of (length s.bounds) j (get_or (column_sides s) j no_sides)
      (get_or (all_kinds s) j Continuous)
  variable_at j d l =
      variable_there (length s.bounds) 0 j s.bounds s.kinds s.tie d (omega arith) h.kinds l
      ∙ ap (λ m. variable_of (length s.bounds) m (get_or (column_sides s) j no_sides) (get_or (all_kinds s) j Continuous)) (let e : 0 + j ≡ j = omega arith in e)

  pub variable_left : (j : ℕ) → j < column_count s → left_variables s j
      ≡ variable_of (length s.bounds) j (get_or (column_sides s) j no_sides) (get_or (all_kinds s) j Continuous)
      ∷ left_variables s (j + 1)
  variable_left j l = let v = variable_of (length s.bounds) j (get_or (column_sides s) j no_sides)
      (get_or (all_kinds s) j Continuous) in rest_of (program_variables s) j v (omega (arith, l, all_variables))
      (sym (variable_at j v l))

  pub variables_end : (j : ℕ) → j ≡ column_count s → left_variables s j ≡ []
  variables_end j e = drop_all j (program_variables s) (omega (arith, e, all_variables))

-- ---- bounds
pub bounds_more : (j : ℕ) (v : Variable) (vs : List Variable) → bounds_of j (v ∷ vs) ≡ column_bounds j v.bound.lower v.bound.upper ++ bounds_of (j + 1) vs
unfolding bounds_of
bounds_more j v vs = ap (λ n. column_bounds j v.bound.lower v.bound.upper ++ bounds_of n vs) (sym (add-one j))

pub bounds_none : (j : ℕ) → bounds_of j [] ≡ []
unfolding bounds_of
bounds_none j = refl

pub fixed_bounds : (j : ℕ) (l u : ℚ) → l ≡ u → column_bounds j (Some l) (Some u) ≡ bound_record Fx j l ∷ []
fixed_bounds j l u e = ap (fixed_or_both j l u) (ap (λ x. nonzero (x -ℚ l)) (sym e) ∙ no_difference l)

pub both_bounds : (j : ℕ) (l u : ℚ) → (l ≡ u → ⊥) → column_bounds j (Some l) (Some u) ≡ bound_record Lo j l ∷ bound_record Up j u ∷ []
both_bounds j l u apart =
    ⊎_elim (λ (z : (nonzero (u -ℚ l) ≡ None) × (u -ℚ l ≡ zero_ℚ)). absurd (apart (difference_zero l u z.1))) (λ s. ap (fixed_or_both j l u) s) (nonzero_cases (u -ℚ l))

-- ---- the bounds of a column by its sides
module _ (side : Interval) where
  by_sides : (l u : Option Dec) (j : ℕ) → side.lo ≡ l → side.hi ≡ u → column_bounds j (side_value l) (side_value u) ≡ column_bounds j (side_value side.lo) (side_value side.hi)
  by_sides l u j a b = sym (ap₂ (λ l u. column_bounds j (side_value l) (side_value u)) a b)

  pub of_none : (z : Dec) → side.lo ≡ None → side.hi ≡ None → dec_value z ≡ zero_ℚ → AreBoundsOf side (Fr, z) None
  of_none z a b e = record { records = λ j. ap (λ v. bound_record Fr j v ∷ []) e ∙ by_sides None None j a b; zero = λ w. e; zero_too = tt; apart = tt }

  pub of_upper : (z u : Dec) → side.lo ≡ None → side.hi ≡ Some u → dec_value z ≡ zero_ℚ → AreBoundsOf side (Mi, z) (Some (Up, u))
  of_upper z u a b e =
      record {
        records = λ j. ap (λ v. bound_record Mi j v ∷ bound_record Up j (dec_value u) ∷ []) e
            ∙ by_sides None (Some u) j a b;
        zero = λ w. e;
        zero_too = λ w. absurd w;
        apart =
            record { lower = refl; upper = refl };
      }

  pub of_lower : (l z : Dec) → side.lo ≡ Some l → side.hi ≡ None → dec_value z ≡ zero_ℚ → AreBoundsOf side (Lo, l) (Some (Pl, z))
  of_lower l z a b e =
      record {
        records = λ j. ap (λ v. bound_record Lo j (dec_value l) ∷ bound_record Pl j v ∷ []) e
            ∙ by_sides (Some l) None j a b;
        zero = λ w. absurd w;
        zero_too = λ w. e;
        apart =
            record { lower = refl; upper = refl };
      }

  pub of_one : (l u : Dec) → side.lo ≡ Some l → side.hi ≡ Some u → dec_value l ≡ dec_value u → AreBoundsOf side (Fx, l) None
  of_one l u a b e = record { records = λ j. sym (fixed_bounds j (dec_value l) (dec_value u) e) ∙ by_sides (Some l) (Some u) j a b; zero = λ w. absurd w; zero_too = tt; apart = tt }

  pub of_both : (l u : Dec) → side.lo ≡ Some l → side.hi ≡ Some u → (dec_value l ≡ dec_value u → ⊥) → AreBoundsOf side (Lo, l) (Some (Up, u))
  of_both l u a b e =
      record {
        records = λ j. sym (both_bounds j (dec_value l) (dec_value u) e) ∙ by_sides (Some l) (Some u) j a b;
        zero = λ w. absurd w;
        zero_too = λ w. absurd w;
        apart = record { lower = refl; upper = refl };
      }

-- records that are added at the end
pub bounds_put : (j : ℕ) (old now bs : List (Bound Dec)) (records : List (Bound ℚ)) → now ≡ old ++ bs
    → map (bound_with dec_value) bs ≡ records → All (λ b. b.column < j) old → All (λ b. b.column < j + 1) bs
    → AreBoundsAdded j records old now
bounds_put j old now bs records e same before new =
    let P : Bound Dec → Type 0 = λ b. b.column < j + 1 in
    record {
      value = ap (map (bound_with dec_value)) e ∙ map-append (bound_with dec_value) old bs ∙ ap (λ rs. map (bound_with dec_value) old ++ rs) same;
      before = subst (All P) (sym e) (All-append P old bs (λ k d h. omega (arith, before k d h)) new);
    }

pub one_put : (j : ℕ) (old now : List (Bound Dec)) (b : Bound Dec) (records : List (Bound ℚ)) → now ≡ old ++ b ∷ []
    → b.column ≡ j → bound_with dec_value b ∷ [] ≡ records → All (λ b. b.column < j) old
    → AreBoundsAdded j records old now
one_put j old now b records e at same before =
    let P : Bound Dec → Type 0 = λ b. b.column < j + 1 in
    bounds_put j old now (b ∷ []) records e same before (All-cons P b [] (omega (arith, at)) (All-nil P))

pub two_put : (j : ℕ) (old now : List (Bound Dec)) (b c : Bound Dec) (records : List (Bound ℚ))
    → now ≡ old ++ b ∷ c ∷ [] → b.column ≡ j → c.column ≡ j → bound_with dec_value b ∷ bound_with dec_value c ∷ []
    ≡ records → All (λ b. b.column < j) old →
    AreBoundsAdded j records old now
two_put j old now b c records e at and same before =
    let P : Bound Dec → Type 0 = λ b. b.column < j + 1 in
    bounds_put j old now (b ∷ c ∷ []) records e same before (All-cons P b (c ∷ []) (omega (arith, at)) (All-cons P c [] (omega (arith, and)) (All-nil P)))

module _ (s : ScaledValue) where
  pub record AreBoundsLeft (now : List (Bound Dec)) (j : ℕ) : Type 0 where
    pub value : map (bound_with dec_value) now ++ bounds_of j (left_variables s j) ≡ bounds_of 0 (program_variables s)
    pub before : All (λ b. b.column < j) now

  -- the bounds of the variables from variable j on
  pub bounds_left : (h : IsScaled s) (j : ℕ) (b : Interval) → j < column_count s → b ≡ get_or (column_sides s) j b →
      bounds_of j (left_variables s j) ≡ column_bounds j (side_value b.lo) (side_value b.hi) ++ bounds_of (j + 1) (left_variables s (j + 1))
  bounds_left h j b l is =
      ap (bounds_of j) (variable_left s h j l)
      ∙ bounds_more j (variable_of (length s.bounds) j (get_or (column_sides s) j no_sides) (get_or (all_kinds s) j Continuous)) (left_variables s (j + 1))
      ∙ ap (λ b. column_bounds j (side_value b.lo) (side_value b.hi) ++ bounds_of (j + 1) (left_variables s (j + 1)))
      (get_or_default (column_sides s) j no_sides b (omega (arith, l, sides_count s h)) ∙ sym is)

  pub column_bounds_put : (h : IsScaled s) (now new : List (Bound Dec)) (j : ℕ) (b : Interval) → AreBoundsLeft now j → j < column_count s → b ≡ get_or (column_sides s) j b →
      AreBoundsAdded j (column_bounds j (side_value b.lo) (side_value b.hi)) now new → AreBoundsLeft new (j + 1)
  column_bounds_put h now new j b a l is c =
      let records = column_bounds j (side_value b.lo) (side_value b.hi) in
      let rest = bounds_of (j + 1) (left_variables s (j + 1)) in
      record {
        value =
            ap (λ bs. bs ++ rest) c.value
            ∙ append_assoc (map (bound_with dec_value) now) records rest
            ∙ ap (λ bs. map (bound_with dec_value) now ++ bs) (sym (bounds_left h j b l is))
            ∙ a.value;
        before = c.before;
      }

  pub all_bounds_put : (h : IsScaled s) (now : List (Bound Dec)) (j : ℕ) → AreBoundsLeft now j → j ≡ column_count s → map (bound_with dec_value) now ≡ bounds_of 0 (program_variables s)
  all_bounds_put h now j a e =
      sym (append-nil (map (bound_with dec_value) now)) ∙ ap (λ bs. map (bound_with dec_value) now ++ bs) (sym (ap (bounds_of j) (variables_end s h j e) ∙ bounds_none j)) ∙ a.value

pub bounds_only : (old now new : Mps Dec) → now ≡ record old { bounds = now.bounds } → new ≡ record now { bounds = new.bounds } → new ≡ record old { bounds = new.bounds }
bounds_only old now new a e = e ∙ ap (λ (m : Mps Dec). record m { bounds = new.bounds }) a

-- ---- rising rows
abbrev IsRisingFrom : ℕ → ℕ → List (Entry ℚ) → Type 0
IsRisingFrom low high [] = Unit {0}
IsRisingFrom low high (e ∷ es) = (low ≤ e.row) × (e.row < high) × IsRisingFrom (e.row + 1) high es

lower : (low high : ℕ) (es : List (Entry ℚ)) → IsRisingFrom (low + 1) high es → IsRisingFrom low high es
lower low high [] h = tt
lower low high (e ∷ es) h = (omega (arith, h.0), h.1, h.2)

with_rising : (p high : ℕ) (o : Option ℚ) (es : List (Entry ℚ)) → p < high → IsRisingFrom (p + 1) high es → IsRisingFrom p high (with_entry p o es)
with_rising p high None es h r = lower p high es r
with_rising p high (Some v) es h r = (omega arith, h, r)

entries_rising : (g : ScaledRow → Option ℚ) (p high : ℕ) (rows : List ScaledRow) → p + length rows ≡ high → IsRisingFrom p high (entries_of g p rows)
entries_rising g p high [] e = subst (IsRisingFrom p high) (sym (entries_none g p)) tt
entries_rising g p high (r ∷ rs) e = subst (IsRisingFrom p high) (sym (entries_more g p r rs))
    (with_rising p high (g r) (entries_of g (p + 1) rs) (omega (arith, e))
    (entries_rising g (p + 1) high rs (omega (arith, e))))

all_above : (ts : List TermOf) (low high : ℕ) → IsRisingFrom low high (map entry_value ts) → All (λ t. low ≤ t.0) ts
all_above [] low high h k d l = absurd (omega arith)
all_above (t ∷ ts) low high h zero d l = h.0
all_above (t ∷ ts) low high h (suc k) d l = omega (arith, h.0, all_above ts (t.0 + 1) high h.2 k d (omega arith))

terms_rising : (ts : List TermOf) (low high : ℕ) → IsRisingFrom low high (map entry_value ts) → AreRising high ts
terms_rising [] low high h = record { within = All-nil (λ t. t.0 < high); rising = λ i j d l m. absurd (omega arith) }
terms_rising (t ∷ ts) low high h =
    let rest = terms_rising ts (t.0 + 1) high h.2 in
    let after : All (λ u. t.0 < u.0) ts = λ k d l. omega (arith, all_above ts (t.0 + 1) high h.2 k d l) in
    record { within = All-cons (λ t. t.0 < high) t ts h.1 rest.within; rising = AllPairs-cons (λ s t. s.0 < t.0) t ts after rest.rising }

pub column_rising : (s : ScaledValue) (j n : ℕ) (ts : List TermOf) → map entry_value ts ≡ entries_in_column s j → n ≡ 1 + length (program_rows s) → AreRising n ts
column_rising s j n ts e size =
    terms_rising ts 0 n (subst (IsRisingFrom 0 n) (sym e) (with_rising 0 n
    (nonzero ((program_objective s).coefficient j)) (entries_of (λ r. nonzero (r.coefficient j)) 1
    (program_rows s)) (omega (arith, size)) (entries_rising (λ r. nonzero (r.coefficient j)) 1 n
    (program_rows s) (sym size))))

-- ---- the value of a column
values_of_entries : (ts : List TermOf) → map (entry_with dec_value) (map entry_of ts) ≡ map entry_value ts
values_of_entries [] = refl
values_of_entries (t ∷ ts) = ap (λ es. entry_value t ∷ es) (values_of_entries ts)

entries_or_zero : (ts : List TermOf) (z : Dec) → dec_value z ≡ zero_ℚ → map (entry_with dec_value) (or_first (record { row = 0; value = z }) (map entry_of ts)) ≡ or_obj_zero (map entry_value ts)
entries_or_zero [] z e = ap (λ v. record { row = 0; value = v } ∷ []) e
entries_or_zero (t ∷ ts) z e = ap (λ es. entry_value t ∷ es) (values_of_entries ts)

pub columns_more : (o : Form) (rows : List ScaledRow) (j : ℕ) (v : Variable) (vs : List Variable)
    → columns_of o rows j (v ∷ vs) ≡ record { name = v.name; marked = v.whole; entries = column_entries o rows j }
    ∷ columns_of o rows (j + 1) vs
unfolding columns_of
columns_more o rows j v vs = ap (λ n. record { name = v.name; marked = v.whole; entries = column_entries o rows j } ∷ columns_of o rows n vs) (sym (add-one j))

pub columns_none : (o : Form) (rows : List ScaledRow) (j : ℕ) → columns_of o rows j [] ≡ []
unfolding columns_of
columns_none o rows j = refl

-- a column is that of a variable or of a tie
pub count_within : (s : ScaledValue) (j : ℕ) → j < column_count s → j ≤ length s.bounds
count_within s j l = by s.tie l
  where
    by : (t : Option Tie) → j < length s.bounds + tied_count t → j ≤ length s.bounds
    by None l = omega arith
    by (Some t) l = omega arith

entries_filled : (ts : List TermOf) (z : Dec) → (let es = or_first (record { row = 0; value = z }) (map entry_of ts) in (0 < length es) × (length es ≤ length ts + 1))
entries_filled ts z = let h = filled_length (record { row = 0; value = z }) (map entry_of ts) in (h.0, omega (arith, h.1, length-map ts entry_of))

module _ {V : Type 0} (items : V → List TermOf) (s : ScaledValue) (cols : List V) where
  pub record AreColumnsLeft (old now : Mps Dec) (j : ℕ) : Type 0 where
    pub only : now ≡ record old { columns = now.columns }
    pub count : length now.columns ≡ j
    pub value : map (column_with dec_value) now.columns ++ columns_of (program_objective s) (program_rows s) j
        (left_variables s j) ≡ columns_of (program_objective s) (program_rows s) 0 (program_variables s)
    pub few : entry_count now.columns + total_of items (drop j cols) ≤ total_of items cols + j
    pub other : (k : ℕ) → j ≤ k → k ≤ length s.bounds → All (IsOtherColumn (column_in (length s.bounds) k)) now.columns
    pub filled : All HasEntries now.columns

  -- one column more
  module _ (now new : Mps Dec) (j : ℕ) (c : V) (name : List ℕ) (marked : Bool) (z : Dec) (e : new ≡ with_column now (column_from name marked (items c) z)) where
    columns_are : new.columns ≡ now.columns ++ column_from name marked (items c) z ∷ []
    columns_are = ap (λ (m : Mps Dec). m.columns) e

    pub value_put : (v : Variable) (rest : List Variable) → map entry_value (items c) ≡ entries_in_column s j → dec_value z ≡ zero_ℚ → name ≡ v.name → marked ≡ v.whole →
        map (column_with dec_value) new.columns ++ columns_of (program_objective s) (program_rows s) (j + 1) rest
        ≡ map (column_with dec_value) now.columns ++ columns_of (program_objective s) (program_rows s) j (v ∷ rest)
    value_put v rest terms none n m =
        let after = columns_of (program_objective s) (program_rows s) (j + 1) rest in
        ap (λ cs. map (column_with dec_value) cs ++ after) columns_are
        ∙ ap (λ cs. cs ++ after) (map-append (column_with dec_value) now.columns (column_from name marked (items c) z ∷ []))
        ∙ append_assoc (map (column_with dec_value) now.columns) (column_with dec_value (column_from name marked (items c) z) ∷ []) after
        ∙ ap (λ cs. map (column_with dec_value) now.columns ++ cs)
        (ap (λ es. record { name = name; marked = marked; entries = es } ∷ after) (entries_or_zero (items c) z none ∙ ap or_obj_zero terms)
        ∙ ap₂ (λ n m. record { name = n; marked = m; entries = column_entries (program_objective s) (program_rows s) j } ∷ after) n m
        ∙ sym (columns_more (program_objective s) (program_rows s) j v rest))

    pub filled_put : All HasEntries now.columns → All HasEntries new.columns
    filled_put h = subst (All HasEntries) (sym columns_are) (All-push HasEntries now.columns (column_from name marked (items c) z) h (entries_filled (items c) z).0)

    pub count_put : length now.columns ≡ j → length new.columns ≡ j + 1
    count_put h = omega (arith, ap length columns_are, length-append now.columns (column_from name marked (items c) z ∷ []), h)

    pub other_put : (other : List ℕ) → All (IsOtherColumn other) now.columns → name ≢ other → All (IsOtherColumn other) new.columns
    other_put other h apart = subst (All (IsOtherColumn other)) (sym columns_are) (All-push (IsOtherColumn other) now.columns (column_from name marked (items c) z) h apart)

    pub entry_count_put : entry_count new.columns ≤ entry_count now.columns + length (items c) + 1
    entry_count_put =
        omega (
          arith,
          ap entry_count columns_are,
          sum_by-append (λ c. length c.entries) now.columns (column_from name marked (items c) z ∷ []),
          sum_by-cons (λ c. length c.entries) (column_from name marked (items c) z) [],
          (entries_filled (items c) z).1,
        )

    pub column_put : (h : IsScaled s) (old : Mps Dec) (v : Variable) → AreColumnsLeft old now j → j < length cols
        → c ≡ get_or cols j c → map entry_value (items c) ≡ entries_in_column s j → dec_value z ≡ zero_ℚ →
        left_variables s j ≡ v ∷ left_variables s (j + 1) → name ≡ column_in (length s.bounds) j → name ≡ v.name → marked ≡ v.whole → AreColumnsLeft old new (j + 1)
    column_put h old v a inside is terms none left own n m =
        let total : total_of items (drop j cols) ≡ length (items c) + total_of items (drop (j + 1) cols) =
        ap (total_of items) (rest_of cols j c inside is) ∙ sum_by-cons (λ c. length (items c)) c (drop (j + 1) cols) in
        record {
          only = e ∙ ap (λ (m : Mps Dec). with_column m (column_from name marked (items c) z)) a.only ∙ ap (λ cs. record old { columns = cs }) (sym columns_are);
          count = count_put a.count;
          value = value_put v (left_variables s (j + 1)) terms none n m
              ∙ ap (λ vs. map (column_with dec_value) now.columns
              ++ columns_of (program_objective s) (program_rows s) j vs) (sym left) ∙ a.value;
          few = omega (arith, entry_count_put, total, a.few);
          other = λ k l g. other_put (column_in (length s.bounds) k) (a.other k (omega arith) g)
              (λ f. names_apart 120 z_name (length s.bounds) j k (λ z. omega (arith, z)) (omega arith) g
              (omega (arith, h.few_columns)) (sym own ∙ f));
          filled = filled_put a.filled;
        }

  pub rising_enough : (old now : Mps Dec) (j : ℕ) (c : V) → AreColumnsLeft old now j
      → length old.rows ≡ 1 + length (program_rows s) → map entry_value (items c) ≡ entries_in_column s j
      → AreRising (length now.rows) (items c)
  rising_enough old now j c a size terms = column_rising s j (length now.rows) (items c) terms (ap (λ (m : Mps Dec). length m.rows) a.only ∙ size)

  pub all_filled : (h : IsScaled s) (old now : Mps Dec) (j : ℕ) → AreColumnsLeft old now j → j ≡ column_count s → AreFilled s now.columns
  all_filled h old now j a e =
      record {
        value =
            sym (append-nil (map (column_with dec_value) now.columns))
            ∙ ap (λ cs. map (column_with dec_value) now.columns ++ cs)
            (sym (ap (columns_of (program_objective s) (program_rows s) j) (variables_end s h j e)
            ∙ columns_none (program_objective s) (program_rows s) j))
            ∙ a.value;
        count = a.count ∙ e;
        filled = a.filled;
      }

-- ---- no row but the objective is free
kind_bounded : (l u : Option ℚ) → IsTrue (is_some l || is_some u) → kind_of_row l u ≢ N
kind_bounded None None h e = cc
kind_bounded None (Some u) h e = cc
kind_bounded (Some l) None h e = cc
kind_bounded (Some l) (Some u) h e = both (nonzero (u -ℚ l)) e
  where
    both : (o : Option ℚ) → two_sided o ≢ N
    both None e = cc
    both (Some r) e = cc

listed_bounded : (m : ℕ) (name : ℕ → List ℕ) (i : ℕ) (rows : Rows) → All (λ o. IfSome o (λ r. IsRowOver m r.row)) rows → All (λ r. r.kind ≢ N) (map mps_row (rows_in name i rows))
listed_bounded m name i [] all k d h = absurd (omega arith)
listed_bounded m name i (None ∷ rows) all k d h = listed_bounded m name (suc i) rows (λ j e l. all (suc j) e (omega arith)) k d h
listed_bounded m name i (Some r ∷ rows) all zero d h = kind_bounded (side_value r.row.side.lo) (side_value r.row.side.hi) (all 0 None (omega arith)).row.sided
listed_bounded m name i (Some r ∷ rows) all (suc k) d h = listed_bounded m name (suc i) rows (λ j e l. all (suc j) e (omega arith)) k d (omega arith)

pub rows_bounded : (s : ScaledValue) (rows : Rows) (ms : List MpsRow) (p : ℕ) → AreProgramRows s rows
    → ms ≡ record { name = obj_name; kind = N } ∷ map mps_row (program_rows s) → 0 < p → p < 1 + length (program_rows s)
    → IsBounded ms p
rows_bounded s rows ms p h e some less =
    let all : All (λ r. r.kind ≢ N) (map mps_row (program_rows s)) =
    subst (λ rs. All (λ r. r.kind ≢ N) (map mps_row rs)) h.named
    (listed_bounded (column_count s) (name_in (length s.rows)) 0 rows h.over) in
    let place : suc (p - 1) ≡ p = omega (arith, some) in
    subst (λ rs. IsBounded rs p) (sym e)
    (subst (IsBounded (record { name = obj_name; kind = N } ∷ map mps_row (program_rows s))) place (all (p - 1) no_mps_row (omega (arith, length-map (program_rows s) mps_row, less, some))))

pub complete : (s : ScaledValue) (m : Mps Dec) (columns : List (Column Dec))
    → m.rows ≡ record { name = obj_name; kind = N } ∷ map mps_row (program_rows s) → m.columns ≡ columns
    → AreFilled s columns → IsComplete m
unfolding objective_row
complete s m columns e same a =
    record {
      objective = subst (λ rs. objective_row rs < length rs) (sym e) (omega arith);
      filled = subst (All HasEntries) (sym same) a.filled;
    }

-- ---- the parts together
pub whole_program : (s : ScaledValue) (m : Mps Dec) → m.name ≡ nl_name → m.maximise ≡ s.maximise
    → m.rows ≡ record { name = obj_name; kind = N } ∷ map mps_row (program_rows s) → AreFilled s m.columns →
    map (entry_with dec_value) m.rhs ≡ with_entry 0 (nonzero (neg_ℚ (program_objective s).constant)) (entries_of right_side_of 1 (program_rows s)) →
    map (entry_with dec_value) m.ranges ≡ entries_of range_in 1 (program_rows s)
    → map (bound_with dec_value) m.bounds ≡ bounds_of 0 (program_variables s)
    → with_values dec_value m ≡ mps_of (scaled_as s)
unfolding with_values mps_of scaled_as
whole_program s m name sense rows a rhs ranges bounds = λ i. record {
  name = name i;
  maximise = sense i;
  rows = rows i;
  columns = a.value i;
  rhs = rhs i;
  ranges = ranges i;
  bounds = bounds i;
}
