use Rattle.std.proofs.Common.{◌≡◌, ℕ, zero, suc, ◌+◌, ◌∙◌, sym, ap, ap₂, refl, arith, codes, List, [], ◌∷◌, ◌++◌}
use Rattle.std.proofs.Common.{length, drop, get_or, append-nil, map, Option, Some, None, true, false, cond, Bool, ◌-◌}
use Rattle.std.proofs.Common.{◌<◌, ◌≤◌, take, take-append-drop, drop-drop, All, append_assoc, subst}
use Rattle.std.proofs.lemmas.List.{get_or-drop, drop_all, get_or-map, get_or_default, length-map, map-append, nil_from_length}
use Rattle.std.specs.List.{flat_map}
use Rattle.exact_numbers.specs.Rational.{ℚ, neg_ℚ, zero_ℚ, ◌-ℚ◌}
use Rattle.exact_numbers.specs.declared.dec.Dec.{Dec}
use Rattle.exact_numbers.specs.Values.{dec_value, text_of, value_text}
use Rattle.exact_numbers.proofs.Spelling.{value_text-decimal}
use Rattle.text_base.specs.WordLines.{WordLine, indented, line_text, lines_text, unless_empty}
use Rattle.written_texts.proofs.Writing.{lines_after, rest_written}
use Rattle.mps_model.specs.Mps.{MpsRow, Entry, no_mps_row, Bound, Column, no_column}
use Rattle.mps_model.specs.declared.kinds.RowKind.TheVariants.{N}
use Rattle.mps_model.specs.Text.{mps_lines, mps_text_by, entry_line, entry_lines, row_line, section}
use Rattle.mps_model.specs.Text.{name_of_row as name_at, bound_line, bound_text, change_lines, column_lines}
use Rattle.mps_model.specs.Text.{markers_after, value_words}
use Rattle.mps_writer.proofs.Writing.{unless_map, column_written, last_change, section_written}
use Rattle.scaled_program.specs.Program.{ScaledRow, nonzero, z_variable}
use Rattle.scaled_program.specs.ExportedProgram.{mps_of, entries_of, mps_row, obj_name, with_entry, bounds_of, column_bounds, column_entries, columns_of, fixed_or_both, or_obj_zero}
use Rattle.row_scaling.specs.Scaled.{ScaledValue, IsScaled}
use Rattle.row_scaling.specs.Exported.{scaled_as, program_objective, program_rows, exported_from, program_variables, tied_rows}
use Rattle.row_scaling.specs.InsideSections.{all_ranges, all_rows, all_sides, first_lines, last_lines, range_lines}
use Rattle.row_scaling.specs.InsideSections.{row_lines, side_lines, value_lines, all_bounds, all_columns, lines_from}
use Rattle.row_scaling.specs.InsideSections.{named_bound, bound_by, second_lines}
use Rattle.row_scaling.specs.InsideFilling.{AreBoundsOf, KindOfBound, bound_at, bounds_at}
use Rattle.row_scaling.specs.InsideSides.{range_in, right_side_of}
use Rattle.row_scaling.proofs.AddLemmas.{column_rising, columns_more, column_sides, all_kinds, all_variables}
use Rattle.row_scaling.proofs.AddLemmas.{bounds_left, bounds_more, bounds_none, variables_end, left_variables}
use Rattle.row_scaling.proofs.AddLemmas.{variable_at, variable_of}
use Rattle.row_scaling.proofs.ColumnLemmas.{entries_more, entries_none, Rows, left, left_some}
use Rattle.std.proofs.Math.ListN.{get_or-append}
use Rattle.linear_program.specs.Names.{row_name}
use Rattle.linear_program.specs.Linear.{Form, Variable}
use Rattle.linear_program.specs.declared.interval.Interval.{Interval}
use Rattle.linear_program.specs.declared.kind.Kind.{Kind}
use Rattle.linear_program.specs.declared.kind.Kind.TheVariants.{Continuous}
use Rattle.linear_program.specs.Intervals.{is_whole_kind, no_sides}
use Rattle.row_scaling.specs.InsideHeads.{AreHeads}
use Rattle.row_scaling.specs.declared.heads.Heads.{Heads}
use Rattle.linear_program.specs.Decimals.{DecimalTerm as TermOf}
use Rattle.linear_program.proofs.ListLemmas.{rest_of, others_left}
use Rattle.row_scaling.specs.Rows.{side_value}
use Rattle.row_scaling.specs.Parts.{column_count, row_named, rows_in}
use Rattle.row_scaling.specs.InsideColumns.{AreColumns, column_in, entries_in_column, entry_value}
use Rattle.linear_program.specs.Parts.{ArePart}
use Rattle.row_scaling.specs.declared.row.FactoredRow.{FactoredRow}

pub same_text : (d : Dec) → text_of d ≡ value_text (dec_value d)
same_text d = sym (value_text-decimal d.m d.e d.spelled)

-- ---- the rows
rows_of_lines : (rs : List ScaledRow) → flat_map row_lines rs ≡ map row_line (map mps_row rs)
rows_of_lines [] = refl
rows_of_lines (r ∷ rs) = ap (λ ls. row_line (mps_row r) ∷ ls) (rows_of_lines rs)

abbrev obj_row : MpsRow
obj_row = record { name = obj_name; kind = N }

pub rows_written : (s : ScaledValue) (out0 out1 out2 out3 : List ℕ) → out1 ≡ out0 ++ line_text (codes "ROWS" ∷ [])
    → out2 ≡ out1 ++ line_text (row_line obj_row) → out3 ≡ out2 ++ lines_text (flat_map row_lines (program_rows s)) →
    out3 ≡ out0 ++ lines_text (section (codes "ROWS") ∷ map row_line (all_rows s))
rows_written s out0 out1 out2 out3 first second third =
    section_written (codes "ROWS") (row_line obj_row ∷ flat_map row_lines (program_rows s)) out0 out1 out3 first
    (lines_after out1 out2 out3 (row_line obj_row ∷ []) (flat_map row_lines (program_rows s)) (second ∙ ap (λ x. out1 ++ x) (sym (append-nil (line_text (row_line obj_row))))) third)
    ∙ ap (λ ls. out0 ++ lines_text (section (codes "ROWS") ∷ row_line obj_row ∷ ls)) (rows_of_lines (program_rows s))

-- ---- values by row
with_line : (all : List MpsRow) (word name : List ℕ) (p : ℕ) (o : Option ℚ) (es : List (Entry ℚ)) → name_at all p ≡ name →
    entry_lines value_text all word (with_entry p o es) ≡ value_lines word name o ++ entry_lines value_text all word es
with_line all word name p None es e = refl
with_line all word name p (Some v) es e = ap (λ n. indented (word ∷ n ∷ value_text v ∷ []) ∷ entry_lines value_text all word es) e

lines_by_row : (all : List MpsRow) (word : List ℕ) (g : ScaledRow → Option ℚ) (p : ℕ) (rs : List ScaledRow) → drop p all ≡ map mps_row rs →
    entry_lines value_text all word (entries_of g p rs) ≡ flat_map (λ r. value_lines word r.name (g r)) rs
lines_by_row all word g p [] e = ap (entry_lines value_text all word) (entries_none g p)
lines_by_row all word g p (r ∷ rs) e =
    ap (entry_lines value_text all word) (entries_more g p r rs)
    ∙ with_line all word r.name p (g r) (entries_of g (p + 1) rs)
    (sym (ap (λ (m : MpsRow). m.name) (get_or-drop p all 0 no_mps_row
    ∙ ap (λ k. get_or all k no_mps_row) (omega arith))) ∙ ap (λ ms. (get_or ms 0 no_mps_row).name) e)
    ∙ ap (λ ls. value_lines word r.name (g r) ++ ls) (lines_by_row all word g (p + 1) rs (sym (others_left all p (mps_row r) (map mps_row rs) e)))

-- ---- right sides
pub sides_written : (s : ScaledValue) (v : Option ℚ) (out0 out1 out2 out3 : List ℕ) → v ≡ nonzero (neg_ℚ (program_objective s).constant) → out1 ≡ out0 ++ line_text (codes "RHS" ∷ []) →
    out2 ≡ out1 ++ lines_text (value_lines (codes "RHS") obj_name v)
    → out3 ≡ out2 ++ lines_text (flat_map side_lines (program_rows s))
    → out3 ≡ out0 ++ lines_text (section (codes "RHS") ∷ entry_lines value_text (all_rows s) (codes "RHS")
    (all_sides s))
sides_written s v out0 out1 out2 out3 constant first second third =
    let o = nonzero (neg_ℚ (program_objective s).constant) in
    let lines = flat_map side_lines (program_rows s) in
    section_written (codes "RHS") (value_lines (codes "RHS") obj_name v ++ lines) out0 out1 out3 first (lines_after out1 out2 out3 (value_lines (codes "RHS") obj_name v) lines second third)
    ∙ ap (λ v. out0 ++ lines_text (section (codes "RHS") ∷ value_lines (codes "RHS") obj_name v ++ lines)) constant
    ∙ ap (λ ls. out0 ++ lines_text (section (codes "RHS") ∷ value_lines (codes "RHS") obj_name o ++ ls)) (sym (lines_by_row (all_rows s) (codes "RHS") right_side_of 1 (program_rows s) refl))
    ∙ ap (λ ls. out0 ++ lines_text (section (codes "RHS") ∷ ls)) (sym (with_line (all_rows s) (codes "RHS") obj_name 0 o (entries_of right_side_of 1 (program_rows s)) refl))

-- ---- ranges
module _ (s : ScaledValue) (rs : List ScaledRow) (b : Bool) (same : rs ≡ program_rows s) (test : (ls : List WordLine) → unless_empty (flat_map range_lines rs) ls ≡ cond b ls []) where
  ranges_by : entry_lines value_text (all_rows s) (codes "RNG") (all_ranges s) ≡ flat_map range_lines rs
  ranges_by = lines_by_row (all_rows s) (codes "RNG") range_in 1 (program_rows s) refl ∙ ap (flat_map range_lines) (sym same)

  range_text : (lines : List WordLine) → unless_empty (all_ranges s) lines ≡ cond b lines []
  range_text lines = unless_map (entry_line value_text (all_rows s) (codes "RNG")) (all_ranges s) (flat_map range_lines rs) lines ranges_by ∙ test lines

  pub no_ranges_written : (lines : List WordLine) (out : List ℕ) → b ≡ false → out ≡ out ++ lines_text (unless_empty (all_ranges s) lines)
  no_ranges_written lines out none = sym (append-nil out) ∙ ap (λ ls. out ++ lines_text ls) (sym (range_text lines ∙ ap (λ b. cond b lines []) none))

  pub ranges_written : (out0 out1 out2 : List ℕ) → b ≡ true → out1 ≡ out0 ++ line_text (codes "RANGES" ∷ []) → out2 ≡ out1 ++ lines_text (flat_map range_lines rs) →
      out2 ≡ out0 ++ lines_text (unless_empty (all_ranges s) (section (codes "RANGES") ∷ entry_lines value_text (all_rows s) (codes "RNG") (all_ranges s)))
  ranges_written out0 out1 out2 some first second =
      let lines = section (codes "RANGES") ∷ entry_lines value_text (all_rows s) (codes "RNG") (all_ranges s) in
      section_written (codes "RANGES") (flat_map range_lines rs) out0 out1 out2 first second
      ∙ ap (λ ls. out0 ++ lines_text (section (codes "RANGES") ∷ ls)) (sym ranges_by)
      ∙ ap (λ ls. out0 ++ lines_text ls) (sym (range_text lines ∙ ap (λ b. cond b lines []) some))

pub value_written : (word name : List ℕ) (value : Option Dec) (number : Dec) (out0 out1 : List ℕ) → value ≡ Some number → out1 ≡ out0 ++ line_text (indented (word ∷ name ∷ text_of number ∷ [])) →
    out1 ≡ out0 ++ lines_text (value_lines word name (side_value value))
value_written word name value number out0 out1 is now =
    now
    ∙ ap (λ t. out0 ++ line_text (indented (word ∷ name ∷ t ∷ []))) (same_text number)
    ∙ ap (λ x. out0 ++ x) (sym (append-nil (line_text (indented (word ∷ name ∷ value_text (dec_value number) ∷ [])))))
    ∙ ap (λ o. out0 ++ lines_text (value_lines word name (side_value o))) (sym is)

-- the lines of a row are written, row i being the next of a list
pub next_written : (lines : ScaledRow → List WordLine) (name : ℕ → List ℕ) (rows : Rows) (i : ℕ)
    (o : Option FactoredRow) (r : FactoredRow) (n out0 out1 total : List ℕ) → i < length rows → o ≡ get_or rows i o
    → o ≡ Some r → n ≡ name i →
    out0 ++ lines_text (flat_map lines (left name rows i)) ≡ total → out1 ≡ out0 ++ lines_text (lines (row_named n r.row)) → out1 ++ lines_text (flat_map lines (left name rows (i + 1))) ≡ total
next_written lines name rows i o r n out0 out1 total h is some named start now =
    rest_written out0 out1 total (lines (row_named (name i) r.row)) (flat_map lines (left name rows (i + 1)))
    (ap (λ rs. out0 ++ lines_text (flat_map lines rs)) (sym (left_some name rows i o r h is some)) ∙ start)
    (now ∙ ap (λ n. out0 ++ lines_text (lines (row_named n r.row))) named)

-- ---- the columns in order
column_is : (o : Form) (rows : List ScaledRow) (i : ℕ) (vs : List Variable) (k : ℕ) (d : Column ℚ) → k < length vs →
    get_or (columns_of o rows i vs) k d ≡ record { name = (get_or vs k z_variable).name; marked = (get_or vs k z_variable).whole; entries = column_entries o rows (i + k) }
column_is o rows i [] k d h = absurd (omega arith)
column_is o rows i (v ∷ vs) zero d h =
    ap (λ cs. get_or cs 0 d) (columns_more o rows i v vs) ∙ ap (λ n. record { name = v.name; marked = v.whole; entries = column_entries o rows n }) (let e : i ≡ i + 0 = omega arith in e)
column_is o rows i (v ∷ vs) (suc k) d h =
    ap (λ cs. get_or cs (suc k) d) (columns_more o rows i v vs)
    ∙ column_is o rows (i + 1) vs k d (omega arith)
    ∙ ap (λ n. record { name = (get_or vs k z_variable).name; marked = (get_or vs k z_variable).whole; entries = column_entries o rows n }) (let e : i + 1 + k ≡ i + suc k = omega arith in e)

columns_length : (o : Form) (rows : List ScaledRow) (i : ℕ) (vs : List Variable) → length (columns_of o rows i vs) ≡ length vs
unfolding columns_of
columns_length o rows i [] = refl
columns_length o rows i (v ∷ vs) = ap suc (columns_length o rows (suc i) vs)

module _ (s : ScaledValue) (h : IsScaled s) where
  all_columns_length : length (all_columns s) ≡ column_count s
  all_columns_length = columns_length (program_objective s) (program_rows s) 0 (program_variables s) ∙ all_variables s h

  column_at : (j : ℕ) → j < column_count s →
      get_or (all_columns s) j no_column ≡ record {
        name = (get_or (program_variables s) j z_variable).name;
        marked =
            (get_or (program_variables s) j z_variable).whole;
        entries = or_obj_zero (entries_in_column s j);
      }
  column_at j l =
      column_is (program_objective s) (program_rows s) 0 (program_variables s) j no_column (omega (arith, l, all_variables s h))
      ∙ ap (λ n. record {
        name = (get_or (program_variables s) j z_variable).name;
        marked =
            (get_or (program_variables s) j z_variable).whole;
        entries = or_obj_zero (entries_in_column s n);
      })
      (let e : 0 + j ≡ j = omega arith in e)

  -- the column j is written
  pub part_written : (j : ℕ) (before marked : Bool) (i n : ℕ) (out0 out1 out2 total word : List ℕ) (ts : List TermOf) → j < column_count s → out0 ++ lines_text (lines_from s before i j) ≡ total →
      marked ≡ (get_or (program_variables s) j z_variable).whole
      → word ≡ (get_or (program_variables s) j z_variable).name → map entry_value ts ≡ entries_in_column s j
      → n ≡ markers_after before marked i →
      out1 ≡ out0 ++ lines_text (change_lines before marked i)
      → out2 ≡ out1 ++ lines_text (entry_lines value_text (all_rows s) word (or_obj_zero (map entry_value ts)))
      → out2 ++ lines_text (lines_from s marked n (j + 1)) ≡ total
  part_written j before marked i n out0 out1 out2 total word ts l start m w t k first second =
      let inside : j < length (all_columns s) = omega (arith, l, all_columns_length) in
      let c : Column ℚ = get_or (all_columns s) j no_column in
      let e = column_at j l in
      column_written value_text (all_rows s) (all_columns s) before i j c out0 out1 out2 total word
      (or_obj_zero (map entry_value ts)) marked marked n inside (get_or_default (all_columns s) j no_column c inside)
      start
      (m ∙ sym (ap (λ (c : Column ℚ). c.marked) e)) (m ∙ sym (ap (λ (c : Column ℚ). c.marked) e))
      (w ∙ sym (ap (λ (c : Column ℚ). c.name) e)) (ap or_obj_zero t ∙ sym (ap (λ (c : Column ℚ). c.entries) e)) k
      first second

  pub columns_written : (n : ℕ) (before : Bool) (i : ℕ) (out0 out1 out2 out3 : List ℕ) → n ≡ column_count s → out1 ≡ out0 ++ line_text (codes "COLUMNS" ∷ []) →
      out2 ++ lines_text (lines_from s before i n) ≡ out1 ++ lines_text (lines_from s false 0 0) → out3 ≡ out2 ++ lines_text (change_lines before false i) →
      out3 ≡ out0 ++ lines_text (section (codes "COLUMNS") ∷ column_lines value_text (all_rows s) false 0 (all_columns s))
  columns_written n before i out0 out1 out2 out3 e first second third =
      section_written (codes "COLUMNS") (column_lines value_text (all_rows s) false 0 (all_columns s)) out0 out1 out3 first
      (last_change value_text (all_rows s) (all_columns s) before i n out2 out3 (out1 ++ lines_text (lines_from s false 0 0)) (omega (arith, e, all_columns_length)) second third)

pub entries_within : (s : ScaledValue) (j : ℕ) (ts : List TermOf) → map entry_value ts ≡ entries_in_column s j → All (λ t. t.0 < length (all_rows s)) ts
entries_within s j ts e = (column_rising s j (length (all_rows s)) ts e (omega (arith, length-map (program_rows s) mps_row))).within

-- ---- the entries of a column
pub some_entries : (ts : List TermOf) → (length ts ≡ 0 → ⊥) → or_obj_zero (map entry_value ts) ≡ map entry_value ts
some_entries [] some = absurd (some refl)
some_entries (t ∷ ts) some = refl

pub no_entries_written : (s : ScaledValue) (word : List ℕ) (ts : List TermOf) (z : Dec) (out0 out1 : List ℕ)
    → length ts ≡ 0 → dec_value z ≡ zero_ℚ → out1 ≡ out0 ++ line_text (indented (word ∷ obj_name ∷ text_of z ∷ [])) →
    out1 ≡ out0 ++ lines_text (entry_lines value_text (all_rows s) word (or_obj_zero (map entry_value ts)))
no_entries_written s word [] z out0 out1 h e now =
    now
    ∙ ap (λ t. out0 ++ line_text (indented (word ∷ obj_name ∷ t ∷ []))) (same_text z ∙ ap value_text e)
    ∙ ap (λ x. out0 ++ x) (sym (append-nil (line_text (indented (word ∷ obj_name ∷ value_text zero_ℚ ∷ [])))))
no_entries_written s word (t ∷ ts) z out0 out1 h e now = absurd (omega arith)

module _ (s : ScaledValue) (word : List ℕ) where
  abbrev pub lines_of : List TermOf → List WordLine
  lines_of ts = entry_lines value_text (all_rows s) word (map entry_value ts)

  -- a few lines, from the last to the first
  pub few_none : (ts : List TermOf) → [] ≡ lines_text (lines_of (drop (length ts) ts))
  few_none ts = sym (ap (λ us. lines_text (lines_of us)) (drop_all (length ts) ts (omega arith)))

  pub few_more : (ts : List TermOf) (i k : ℕ) (t : TermOf) (old new : List ℕ) → 0 < i → i ≤ length ts → k ≡ i - 1 → t ≡ get_or ts k t → old ≡ lines_text (lines_of (drop i ts)) →
      new ≡ line_text (indented (word ∷ name_at (all_rows s) t.0 ∷ text_of t.1 ∷ [])) ++ old → new ≡ lines_text (lines_of (drop k ts))
  few_more ts i k t old new some within next is before now =
      now
      ∙ ap₂ (λ x o. line_text (indented (word ∷ name_at (all_rows s) t.0 ∷ x ∷ [])) ++ o) (same_text t.1) (before ∙ ap (λ j. lines_text (lines_of (drop j ts))) (omega arith))
      ∙ ap (λ us. lines_text (lines_of us)) (sym (rest_of ts k t (omega arith) is))

  -- a part after those before it
  pub part_of_entries_written : (ts part : List TermOf) (i n : ℕ) (text out0 out1 total : List ℕ)
      → out0 ++ lines_text (lines_of (drop i ts)) ≡ total → part ≡ take n (drop i ts) → text ≡ lines_text (lines_of part)
      → out1 ≡ out0 ++ text →
      out1 ++ lines_text (lines_of (drop (i + n) ts)) ≡ total
  part_of_entries_written ts part i n text out0 out1 total start is lines now =
      let line = entry_line value_text (all_rows s) word in
      let rest = drop n (drop i ts) in
      let split : lines_of part ++ lines_of rest ≡ lines_of (drop i ts) =
      sym (map-append line (map entry_value part) (map entry_value rest))
      ∙ ap (map line) (sym (map-append entry_value part rest))
      ∙ ap lines_of (ap (λ us. us ++ rest) is ∙ take-append-drop n (drop i ts)) in
      ap (λ us. out1 ++ lines_text (lines_of us)) (sym (drop-drop n i ts))
      ∙ rest_written out0 out1 total (lines_of part) (lines_of rest) (ap (λ ls. out0 ++ lines_text ls) split ∙ start) (now ∙ ap (λ x. out0 ++ x) lines)

  pub entries_end : (ts : List TermOf) (i : ℕ) (out total : List ℕ) → length ts ≤ i → out ++ lines_text (lines_of (drop i ts)) ≡ total → out ≡ total
  entries_end ts i out total past start = sym (append-nil out) ∙ ap (λ us. out ++ lines_text (lines_of us)) (sym (drop_all i ts past)) ∙ start

-- an entry is of a row of the program, as all are
pub few_within : (n : ℕ) (ts : List TermOf) (k : ℕ) (t : TermOf) → All (λ t. t.0 < n) ts → k < length ts → t ≡ get_or ts k t → t.0 < n
few_within n ts k t within h is = subst (λ u. u.0 < n) (sym is) (within k t h)

names_of : (rs : List ScaledRow) (q : ℕ) → (get_or (map mps_row rs) q no_mps_row).name ≡ get_or (map (λ r. r.name) rs) q []
names_of [] q = refl
names_of (r ∷ rs) zero = refl
names_of (r ∷ rs) (suc q) = names_of rs q

exported_named : (i : ℕ) (rows : Rows) → rows_in row_name i rows ≡ exported_from i rows
exported_named i [] = refl
exported_named i (None ∷ rows) = exported_named (suc i) rows
exported_named i (Some r ∷ rows) = ap (λ rs. row_named (row_name i) r.row ∷ rs) (exported_named (suc i) rows)

pub numbers_named : (s : ScaledValue) (rows : Rows) (numbers : List ℕ) → rows ≡ s.rows
    → map row_name numbers ≡ map (λ r. r.name) (rows_in row_name 0 rows)
    → map row_name numbers ≡ map (λ r. r.name) (exported_from 0 s.rows)
numbers_named s rows numbers same e = e ∙ ap (map (λ r. r.name)) (exported_named 0 rows ∙ ap (exported_from 0) same)

pub row_is_named : (s : ScaledValue) (numbers : List ℕ) (row k : ℕ)
    → map row_name numbers ≡ map (λ r. r.name) (exported_from 0 s.rows) → (row ≡ 0 → ⊥) → row - 1 < length numbers
    → k ≡ get_or numbers (row - 1) 0 →
    row_name k ≡ name_at (all_rows s) row
row_is_named s numbers row k e some h is =
    let q = row - 1 in
    let step : row ≡ suc q = omega (arith, some) in
    let tied = map (λ r. r.name) (tied_rows s.tie s) in
    ap row_name is
    ∙ sym (get_or-map row_name numbers q 0 [] h)
    ∙ sym (get_or-append (map row_name numbers) tied [] q (omega (arith, h, length-map numbers row_name)))
    ∙ ap (λ ns. get_or (ns ++ tied) q []) e
    ∙ ap (λ ns. get_or ns q []) (sym (map-append (λ r. r.name) (exported_from 0 s.rows) (tied_rows s.tie s)))
    ∙ sym (names_of (program_rows s) q)
    ∙ ap (name_at (all_rows s)) (sym step)

-- ---- bounds
by_value : (name : List ℕ) (j : ℕ) (b : KindOfBound) → bound_by name b.0 b.1 ≡ named_bound name (bound_at j b)
by_value name j b = ap (λ t. indented (bound_text b.0 ∷ codes "BND" ∷ name ∷ value_words b.0 t)) (same_text b.1)

lines_by_value : (name : List ℕ) (j : ℕ) (first : KindOfBound) (second : Option KindOfBound)
    → bound_by name first.0 first.1 ∷ second_lines name second ≡ map (named_bound name) (bounds_at j first second)
lines_by_value name j first None = ap (λ l. l ∷ []) (by_value name j first)
lines_by_value name j first (Some second) = ap₂ (λ l m. l ∷ m ∷ []) (by_value name j first) (by_value name j second)

-- the lines of both bounds, the second of which was written first
pub bounds_written : (name : List ℕ) (side : Interval) (first : KindOfBound) (second : Option KindOfBound) (j : ℕ)
    (before text out0 out1 : List ℕ) → AreBoundsOf side first second → before ≡ lines_text (second_lines name second) →
    text ≡ line_text (bound_by name first.0 first.1) ++ before → out1 ≡ out0 ++ text → out1 ≡ out0 ++ lines_text (map (named_bound name) (column_bounds j (side_value side.lo) (side_value side.hi)))
bounds_written name side first second j before text out0 out1 of last lines now =
    now
    ∙ ap (λ t. out0 ++ t) (lines ∙ ap (λ t. line_text (bound_by name first.0 first.1) ++ t) last ∙ ap lines_text (lines_by_value name j first second))
    ∙ ap (λ bs. out0 ++ lines_text (map (named_bound name) bs)) (of.records j)

-- the bounds of column j, by its name
named_lines : (cols : List (Column ℚ)) (j : ℕ) (l u : Option ℚ) → map (bound_line value_text cols) (column_bounds j l u) ≡ map (named_bound (get_or cols j no_column).name) (column_bounds j l u)
named_lines cols j None None = refl
named_lines cols j None (Some u) = refl
named_lines cols j (Some l) None = refl
named_lines cols j (Some l) (Some u) = both (nonzero (u -ℚ l))
  where
    both : (o : Option ℚ) → map (bound_line value_text cols) (fixed_or_both j l u o) ≡ map (named_bound (get_or cols j no_column).name) (fixed_or_both j l u o)
    both None = refl
    both (Some r) = refl

module _ (s : ScaledValue) (h : IsScaled s) where
  abbrev line_of : Bound ℚ → WordLine
  line_of = bound_line value_text (all_columns s)

  name_of : (j : ℕ) → j < column_count s → (get_or (all_columns s) j no_column).name ≡ (get_or (program_variables s) j z_variable).name
  name_of j l = ap (λ (c : Column ℚ). c.name) (column_at s h j l)

  pub variable_bounds_written : (j : ℕ) (b : Interval) (name out0 out1 total : List ℕ) → j < column_count s → b ≡ get_or (column_sides s) j b → name ≡ column_in (length s.bounds) j →
      out0 ++ lines_text (map line_of (bounds_of j (left_variables s j))) ≡ total → out1 ≡ out0 ++ lines_text (map (named_bound name) (column_bounds j (side_value b.lo) (side_value b.hi))) →
      out1 ++ lines_text (map line_of (bounds_of (j + 1) (left_variables s (j + 1)))) ≡ total
  variable_bounds_written j b name out0 out1 total l is n start now =
      let records = column_bounds j (side_value b.lo) (side_value b.hi) in
      let rest = bounds_of (j + 1) (left_variables s (j + 1)) in
      let named : (get_or (all_columns s) j no_column).name ≡ name = name_of j l ∙ ap (λ (v : Variable). v.name) (variable_at s h j z_variable l) ∙ sym n in
      let split : map line_of (bounds_of j (left_variables s j)) ≡ map (named_bound name) records ++ map line_of rest =
      ap (map line_of) (bounds_left s h j b l is) ∙ map-append line_of records rest
      ∙ ap (λ ls. ls ++ map line_of rest) (named_lines (all_columns s) j (side_value b.lo) (side_value b.hi)
      ∙ ap (λ n. map (named_bound n) records) named) in
      rest_written out0 out1 total (map (named_bound name) records) (map line_of rest) (ap (λ ls. out0 ++ lines_text ls) (sym split) ∙ start) now

  pub bounds_end : (j : ℕ) (out total : List ℕ) → j ≡ column_count s → out ++ lines_text (map line_of (bounds_of j (left_variables s j))) ≡ total → out ≡ total
  bounds_end j out total e start = sym (append-nil out) ∙ ap (λ bs. out ++ lines_text (map line_of bs)) (sym (ap (bounds_of j) (variables_end s h j e) ∙ bounds_none j)) ∙ start

  some_bounds : (i : ℕ) (vs : List Variable) (lines : List WordLine) → 0 < length vs → unless_empty (bounds_of i vs) lines ≡ lines
  some_bounds i [] lines some = absurd (omega arith)
  some_bounds i (v ∷ vs) lines some = ap (λ bs. unless_empty bs lines) (bounds_more i v vs) ∙ both v.bound.lower v.bound.upper (bounds_of (i + 1) vs)
    where
      fixed : (l u : ℚ) (o : Option ℚ) (bs : List (Bound ℚ)) → unless_empty (fixed_or_both i l u o ++ bs) lines ≡ lines
      fixed l u None bs = refl
      fixed l u (Some r) bs = refl

      both : (l u : Option ℚ) (bs : List (Bound ℚ)) → unless_empty (column_bounds i l u ++ bs) lines ≡ lines
      both None None bs = refl
      both None (Some u) bs = refl
      both (Some l) None bs = refl
      both (Some l) (Some u) bs = fixed l u (nonzero (u -ℚ l)) bs

  pub no_bounds_written : (lines : List WordLine) (out : List ℕ) → column_count s ≡ 0 → out ≡ out ++ lines_text (unless_empty (all_bounds s) lines)
  no_bounds_written lines out none =
      sym (append-nil out)
      ∙ ap (λ bs. out ++ lines_text (unless_empty bs lines)) (sym (ap (bounds_of 0) (nil_from_length (program_variables s) (all_variables s h ∙ none)) ∙ bounds_none 0))

  pub all_bounds_written : (out0 out1 out2 : List ℕ) → 0 < column_count s → out1 ≡ out0 ++ line_text (codes "BOUNDS" ∷ []) → out2 ≡ out1 ++ lines_text (map line_of (all_bounds s)) →
      out2 ≡ out0 ++ lines_text (unless_empty (all_bounds s) (section (codes "BOUNDS") ∷ map line_of (all_bounds s)))
  all_bounds_written out0 out1 out2 some first second =
      section_written (codes "BOUNDS") (map line_of (all_bounds s)) out0 out1 out2 first second
      ∙ ap (λ ls. out0 ++ lines_text ls) (sym (some_bounds 0 (program_variables s) (section (codes "BOUNDS") ∷ map line_of (all_bounds s)) (omega (arith, some, all_variables s h))))

-- ---- the heads of the columns
module _ (s : ScaledValue) (heads : Heads) (h : AreHeads s heads) (j : ℕ) (within : j < length heads.kinds.items) where
  variable_is : get_or (program_variables s) j z_variable ≡ variable_of (length s.bounds) j (get_or (column_sides s) j no_sides) (get_or (all_kinds s) j Continuous)
  variable_is = variable_at s h.scaled j z_variable (omega (arith, within, h.count))

  pub marked_is : (k : Kind) (marked : Bool) → k ≡ get_or heads.kinds.items j k → marked ≡ is_whole_kind k → marked ≡ (get_or (program_variables s) j z_variable).whole
  marked_is k marked is whole =
      whole ∙ ap is_whole_kind (is ∙ get_or_default heads.kinds.items j k Continuous within ∙ ap (λ ks. get_or ks j Continuous) h.kinds) ∙ sym (ap (λ (v : Variable). v.whole) variable_is)

  pub name_is : (name : List ℕ) → name ≡ column_in heads.variables j → name ≡ (get_or (program_variables s) j z_variable).name
  name_is name is = is ∙ ap (λ n. column_in n j) h.variables ∙ sym (ap (λ (v : Variable). v.name) variable_is)

-- ---- a part of the columns
pub part_columns : {V : Type 0} (items : V → List TermOf) (s : ScaledValue) (n first m : ℕ) (all : List (List TermOf))
    (columns : List V) → ArePart items first m all columns → AreColumns (λ c. c) n (entries_in_column s) all
    → first + m ≤ n →
    AreColumns items (length columns) (λ k. entries_in_column s (first + k)) columns
part_columns items s n first m all columns p a within =
    let size = p.count in
    record {
      count = refl;
      terms = λ k d l. (let inside : k < m = omega (arith, l, size) in ap (map entry_value) (p.terms k d inside) ∙ a.terms (first + k) [] (omega (arith, inside, within)));
    }

-- ---- the whole text
pub text_is : (s : ScaledValue) (first columns last : List ℕ) → first ≡ lines_text (first_lines s) → last ≡ lines_text (last_lines s) →
    columns ≡ first ++ lines_text (section (codes "COLUMNS") ∷ column_lines value_text (all_rows s) false 0 (all_columns s)) →
    columns ++ last ≡ mps_text_by value_text (mps_of (scaled_as s))
unfolding mps_lines mps_of scaled_as
text_is s first columns last before after now =
    let column_part = section (codes "COLUMNS") ∷ column_lines value_text (all_rows s) false 0 (all_columns s) in
    let side_part = section (codes "RHS") ∷ entry_lines value_text (all_rows s) (codes "RHS") (all_sides s) in
    let range_part = unless_empty (all_ranges s) (section (codes "RANGES") ∷ entry_lines value_text (all_rows s) (codes "RNG") (all_ranges s)) in
    let bound_part = unless_empty (all_bounds s) (section (codes "BOUNDS") ∷ map (bound_line value_text (all_columns s)) (all_bounds s)) in
    let end_part = section (codes "ENDATA") ∷ [] in
    let front = first_lines s ++ column_part in
    let columns_so : columns ≡ lines_text front = lines_after [] _ _ (first_lines s) column_part before now in
    lines_after [] _ _ front (last_lines s) columns_so (ap (λ x. columns ++ x) after)
    ∙ ap lines_text (sym (append_assoc front (side_part ++ range_part ++ bound_part) end_part)
    ∙ ap (λ ls. ls ++ end_part) (sym (append_assoc front (side_part ++ range_part) bound_part)
    ∙ ap (λ ls. ls ++ bound_part) (sym (append_assoc front side_part range_part))))
