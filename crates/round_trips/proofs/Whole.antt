-- A program of rows, an objective and variables is a whole decimal program where its parts are named and its numbers are decimals.
use Rattle.std.proofs.Common.{◌≡◌, ◌≢◌, ℕ, zero, suc, ◌+◌, ◌<◌, ◌≤◌, ◌^◌, Bool, List, [], ◌∷◌, length, map, Option, Some, None, refl, sym, subst, arith}
use Rattle.std.specs.Prelude.{All, IfSome}
use Rattle.std.specs.List.{AllPairs}
use Rattle.std.proofs.lemmas.List.{length-map}
use Rattle.std.proofs.lemmas.List.Elements.{All-nil, All-cons, All-head, All-tail, All-weaker, All-map}
use Rattle.std.proofs.lemmas.List.Kept.{AllPairs-cons}
use Rattle.text_base.specs.Names.{IsName}
use Rattle.text_base.proofs.AllLemmas.{pairs_mapped}
use Rattle.exact_numbers.specs.Rational.{ℚ, zero_ℚ, neg_ℚ}
use Rattle.exact_numbers.specs.Values.{FitsDec}
use Rattle.linear_program.specs.Linear.{Form, Variable}
use Rattle.mps_model.specs.declared.kinds.RowKind.TheVariants.{N}
use Rattle.mps_model.specs.Mps.{MpsRow, Entry, Column, Bound, no_mps_row, objective_row}
use Rattle.mps_model.specs.Valid.{AreRows, AreEntries, AreRanges, IsPartOfMps, IsMps, IsBounded, IsOtherRow, HasEntries, marker_word, entry_count}
use Rattle.scaled_program.specs.Program.{ScaledRow, nonzero, range_of}
use Rattle.scaled_program.specs.ExportedProgram.{with_entry, entries_of, or_obj_zero, column_entries, columns_of, kind_of_row, mps_row, obj_name, mps_of, rhs_of, bounds_of}
use Rattle.scaled_program.proofs.Entries.{columns_length}
use Rattle.round_trips.specs.Exportable.{HasDecimalBounds}
use Rattle.round_trips.proofs.Names.{scaled_of}
use Rattle.scaled_program.proofs.Names.{nl_is_name, obj_is_name, obj_not_marker}
use Rattle.exact_numbers.proofs.Fitting.{zero_fits}
use Rattle.round_trips.proofs.Picked.{AreDecimal, IsDecimalProgram}
use Rattle.round_trips.proofs.ProgramNames.{AreNamedRows, AreNamedVariables}
use Rattle.round_trips.proofs.ProgramParts.{columns_all, entries_from, are_entries, objective_first, column_from, some_entry, all_from, AreBoundsFrom, bounds_from}

-- ---- numbers that are decimals

abbrev pub IfFits : Option ℚ → Type 0
IfFits o = IfSome o FitsDec

with_fits : (i : ℕ) (o : Option ℚ) (es : List (Entry ℚ)) → IfFits o → AreDecimal es → AreDecimal (with_entry i o es)
with_fits i None es f h = h
with_fits i (Some v) es f h = All-cons (λ (e : Entry ℚ). FitsDec e.value) (record { row = i; value = v }) es f h

entries_fit : (g : ScaledRow → Option ℚ) (i : ℕ) (rows : List ScaledRow) → All (λ r. IfFits (g r)) rows → AreDecimal (entries_of g i rows)
unfolding entries_of
entries_fit g i [] h = All-nil (λ (e : Entry ℚ). FitsDec e.value)
entries_fit g i (r ∷ rows) h = with_fits i (g r) (entries_of g (suc i) rows) (All-head (λ r. IfFits (g r)) r rows h) (entries_fit g (suc i) rows (All-tail (λ r. IfFits (g r)) r rows h))

or_zero_fits : (es : List (Entry ℚ)) → AreDecimal es → AreDecimal (or_obj_zero es)
or_zero_fits [] h = All-cons (λ (e : Entry ℚ). FitsDec e.value) (record { row = 0; value = zero_ℚ }) [] zero_fits (All-nil (λ (e : Entry ℚ). FitsDec e.value))
or_zero_fits (e ∷ es) h = h

objective_first_row : (rs : List MpsRow) → objective_row (record { name = obj_name; kind = N } ∷ rs) < length (record { name = obj_name; kind = N } ∷ rs)
unfolding objective_row
objective_first_row rs = omega arith

-- ---- the parts

-- a row that is exported, of which the first m coefficients count
pub record IsWritten (m : ℕ) (r : ScaledRow) : Type 0 where
  pub coefficients : (j : ℕ) → j < m → IfFits (nonzero (r.coefficient j))
  pub right : IfFits (nonzero (rhs_of r.side.lower r.side.upper))
  pub range : IfFits (range_of r.side.lower r.side.upper)
  pub sided : kind_of_row r.side.lower r.side.upper ≢ N

-- what a program is made of can be written: n is the number of variables
pub record CanBeWritten (rows : List ScaledRow) (objective : Form) (vs : List Variable) : Type 0 where
  pub named : AreNamedRows rows
  pub variables : AreNamedVariables vs
  pub few_rows : 1 + length rows ≤ 2 ^ 21
  pub few_variables : length vs ≤ 2 ^ 21
  pub few_entries : entry_count (columns_of objective rows 0 vs) ≤ 2 ^ 24
  pub written : All (IsWritten (length vs)) rows
  pub costs : (j : ℕ) → j < length vs → IfFits (nonzero (objective.coefficient j))
  pub constant : IfFits (nonzero (neg_ℚ objective.constant))
  pub bounds : All HasDecimalBounds vs

module _ (rows : List ScaledRow) (objective : Form) (vs : List Variable) (maximise : Bool) (can : CanBeWritten rows objective vs) where
  obj_row : MpsRow
  obj_row = record { name = obj_name; kind = N }

  height : length (record { name = obj_name; kind = N } ∷ map mps_row rows) ≡ 1 + length rows
  height = omega (arith, length-map rows mps_row)

  rows_are : AreRows (record { name = obj_name; kind = N } ∷ map mps_row rows)
  unfolding obj_row
  rows_are = record {
    few = omega (arith, height, can.few_rows);
    named = All-cons (λ (r : MpsRow). IsName r.name) obj_row (map mps_row rows) obj_is_name (All-map (λ (r : MpsRow). IsName r.name) mps_row rows can.named.named);
    apart = AllPairs-cons (λ (r s : MpsRow). r.name ≢ s.name) obj_row (map mps_row rows)
        (All-map (λ (s : MpsRow). obj_name ≢ s.name) mps_row rows
        (All-weaker (λ r. r.name ≢ obj_name) (λ r. obj_name ≢ r.name) (λ r other same. other (sym same)) rows
        can.named.not_obj)) (pairs_mapped (λ (r s : MpsRow). r.name ≢ s.name) mps_row rows can.named.apart);
    no_marker = All-cons (IsOtherRow marker_word) obj_row (map mps_row rows) obj_not_marker (All-map (IsOtherRow marker_word) mps_row rows can.named.no_marker);
  }

  column_fits : (j : ℕ) → j < length vs → AreDecimal (column_entries objective rows j)
  column_fits j lt =
      or_zero_fits (with_entry 0 (nonzero (objective.coefficient j)) (entries_of (λ r. nonzero (r.coefficient j)) 1 rows))
      (with_fits 0 (nonzero (objective.coefficient j)) (entries_of (λ r. nonzero (r.coefficient j)) 1 rows)
      (can.costs j lt) (entries_fit (λ r. nonzero (r.coefficient j)) 1 rows
      (All-weaker (IsWritten (length vs)) (λ r. IfFits (nonzero (r.coefficient j))) (λ r w. w.coefficients j lt)
      rows can.written)))

  -- a property of every column
  each_column : (P : Column ℚ → Type 0) → ((j : ℕ) (v : Variable) → j < length vs → IsName v.name
      → P (record { name = v.name; marked = v.whole; entries = column_entries objective rows j }))
      → All P (columns_of objective rows 0 vs)
  each_column P h = columns_all P (λ v. IsName v.name) objective rows 0 vs (λ j v lt. h j v (omega (arith, lt))) can.variables.named

  -- the name of a column is that of its variable
  columns_apart : (j : ℕ) (own : List Variable) → AllPairs (λ v w. v.name ≢ w.name) own → AllPairs (λ (c d : Column ℚ). c.name ≢ d.name) (columns_of objective rows j own)
  unfolding columns_of
  columns_apart j [] h = λ a b d lt within. absurd (omega arith)
  columns_apart j (v ∷ own) h =
      AllPairs-cons (λ (c d : Column ℚ). c.name ≢ d.name) (record { name = v.name; marked = v.whole; entries = column_entries objective rows j }) (columns_of objective rows (suc j) own)
      (columns_all (λ (c : Column ℚ). v.name ≢ c.name) (λ w. v.name ≢ w.name) objective rows (suc j) own (λ k w lt other. other) (λ k d within. h zero (suc k) d (omega arith) (omega (arith, within))))
      (columns_apart (suc j) own (λ a b d lt within. h (suc a) (suc b) d (omega (arith, lt)) (omega (arith, within))))

  -- a range is in a row with a side
  bounded_at : (i : ℕ) → 1 ≤ i → i < 1 + length rows → IsBounded (record { name = obj_name; kind = N } ∷ map mps_row rows) i
  bounded_at zero le lt = absurd (omega arith)
  bounded_at (suc i) le lt =
      let inside : i < length (map mps_row rows) = omega (arith, lt, length-map rows mps_row) in
      All-map (λ (r : MpsRow). r.kind ≢ N) mps_row rows (All-weaker (IsWritten (length vs)) (λ r. kind_of_row r.side.lower r.side.upper ≢ N) (λ r w. w.sided) rows can.written) i no_mps_row inside

  ranges_are : AreRanges (record { name = obj_name; kind = N } ∷ map mps_row rows) (entries_of (λ r. range_of r.side.lower r.side.upper) 1 rows)
  ranges_are =
      let es = entries_of (λ r. range_of r.side.lower r.side.upper) 1 rows in
      let from = entries_from (λ r. range_of r.side.lower r.side.upper) 1 (1 + length rows) rows refl in
      record {
        entries = subst (λ (n : ℕ). AreEntries n es) (sym height) (are_entries 1 (1 + length rows) es from);
        bounded = All-weaker (λ (e : Entry ℚ). (1 ≤ e.row) × (e.row < 1 + length rows))
            (λ e. IsBounded (record { name = obj_name; kind = N } ∷ map mps_row rows) e.row)
            (λ e k. bounded_at e.row k.0 k.1) es (all_from 1 (1 + length rows) es from);
      }

  bounds_are : AreBoundsFrom 0 (length vs) (bounds_of 0 vs)
  bounds_are = bounds_from 0 (length vs) vs (omega arith) can.bounds

  program_part : IsPartOfMps (λ x. x) (mps_of (scaled_of rows objective vs maximise))
  unfolding mps_of
  program_part =
      let cs = columns_of objective rows 0 vs in
      let es = with_entry 0 (nonzero (neg_ℚ objective.constant)) (entries_of (λ r. nonzero (rhs_of r.side.lower r.side.upper)) 1 rows) in
      record {
        name = nl_is_name;
        rows = rows_are;
        columns = record {
          few = omega (arith, columns_length objective rows 0 vs, can.few_variables);
          few_entries = can.few_entries;
          named = each_column (λ (c : Column ℚ). IsName c.name) (λ j v lt named. named);
          apart = columns_apart 0 vs can.variables.apart;
          entries = subst (λ (n : ℕ). All (λ (c : Column ℚ). AreEntries n c.entries) cs) (sym height)
              (each_column (λ (c : Column ℚ). AreEntries (1 + length rows) c.entries)
              (λ j v lt named. are_entries 0 (1 + length rows) (column_entries objective rows j)
              (column_from objective rows j)));
        };
        rhs = subst (λ (n : ℕ). AreEntries n es) (sym height)
            (are_entries 0 (1 + length rows) es (objective_first (nonzero (neg_ℚ objective.constant))
            (λ r. nonzero (rhs_of r.side.lower r.side.upper)) rows));
        ranges = ranges_are;
        bounds = record {
          within = All-weaker (λ (b : Bound ℚ). (0 ≤ b.column) × (b.column < length vs)) (λ b. b.column < length cs)
              (λ b k. omega (arith, k.1, columns_length objective rows 0 vs)) (bounds_of 0 vs) bounds_are.within;
          apart = bounds_are.apart;
          zeros = bounds_are.zeros;
        };
      }

  pub program_is_whole : IsMps (λ x. x) (mps_of (scaled_of rows objective vs maximise))
  unfolding mps_of
  program_is_whole = record {
    part = program_part;
    complete =
        record {
          objective = objective_first_row (map mps_row rows);
          filled =
              each_column HasEntries (λ j v lt named. some_entry (with_entry 0 (nonzero (objective.coefficient j))
              (entries_of (λ r. nonzero (r.coefficient j)) 1 rows)));
        };
  }

  pub program_is_decimal : IsDecimalProgram (mps_of (scaled_of rows objective vs maximise))
  unfolding mps_of
  program_is_decimal = record {
    columns = each_column (λ (c : Column ℚ). AreDecimal c.entries) (λ j v lt named. column_fits j lt);
    rhs = with_fits 0 (nonzero (neg_ℚ objective.constant)) (entries_of (λ r. nonzero (rhs_of r.side.lower r.side.upper))
        1 rows) can.constant (entries_fit (λ r. nonzero (rhs_of r.side.lower r.side.upper)) 1 rows
        (All-weaker (IsWritten (length vs)) (λ r. IfFits (nonzero (rhs_of r.side.lower r.side.upper))) (λ r w. w.right)
        rows can.written));
    ranges = entries_fit (λ r. range_of r.side.lower r.side.upper) 1 rows (All-weaker (IsWritten (length vs)) (λ r. IfFits (range_of r.side.lower r.side.upper)) (λ r w. w.range) rows can.written);
    bounds = bounds_are.decimal;
  }
