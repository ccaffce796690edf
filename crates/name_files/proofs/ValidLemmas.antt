-- A program with other names is a program.
use Rattle.std.proofs.Common.{◌≡◌, ◌≢◌, ◌∙◌, ◌⊎◌, inl, inr, ℕ, ◌+◌, ◌<◌, ◌≤◌, ◌^◌, false, List, [], ◌∷◌, length, map, get_or, Option, Some, None, All, refl, sym, ap, subst, arith}
use Rattle.std.specs.Fmt.{decimal}
use Rattle.std.proofs.lemmas.Bool.{cases_order}
use Rattle.std.proofs.lemmas.Fmt.{length-decimal-le}
use Rattle.std.proofs.lemmas.List.{length-map, get_or-map}
use Rattle.std.proofs.lemmas.List.Elements.{All-map}
use Rattle.std.proofs.lemmas.List.Sums.{sum_by-cons}
use Rattle.text_base.specs.Names.{IsName}
use Rattle.text_base.proofs.AllLemmas.{pairs_mapped}
use Rattle.exact_numbers.specs.declared.dec.Dec.{Dec}
use Rattle.exact_numbers.specs.Values.{dec_value}
use Rattle.linear_program.specs.Names.{row_name, variable_name}
use Rattle.mps_model.specs.Mps.{MpsRow, Column, Mps, no_mps_row}
use Rattle.mps_model.specs.Valid.{AreRows, AreColumns, AreEntries, AreRanges, AreBounds, IsPartOfMps, IsComplete, IsMps, IsOtherRow, HasEntries, IsNameOrEmpty, marker_word, entry_count}
use Rattle.mps_model.specs.Names.{AreNames, is_reserved}
use Rattle.mps_model.specs.Names.{index_named}
use Rattle.name_files.specs.Renamed.{marked, named_at, new_name, named_row, named_column, named_rows, named_columns, named, with_names, IsExportedName, AreExportedNames, HasExportedNames}
use Rattle.mps_model.proofs.NumeralLemmas.{named_so}
use Rattle.name_files.proofs.MeaningLemmas.{kept_at, same_objective_row}

-- ---- lists that were mapped

all_unmapped : {X Y : Type 0} (P : Y → Type 0) (f : X → Y) (xs : List X) → All P (map f xs) → All (λ x. P (f x)) xs
all_unmapped P f xs h i d lt = subst P (get_or-map f xs i d (f d) lt) (h i (f d) (omega (arith, lt, length-map xs f)))

-- ---- old names

-- a letter and a number
numbered : (letter n : ℕ) → n < 2 ^ 31 → length (letter ∷ decimal n) ≤ 254
numbered letter n lt = omega (arith, length-decimal-le 10 n (omega arith) (omega (arith, lt)) (omega (arith, lt)))

module _ (letter n : ℕ) (few : n ≤ 2 ^ 31) where
  short : (text : List ℕ) → IsExportedName (λ j. letter ∷ decimal j) n text → length text ≤ 254
  short text (inl (inl e)) = omega (arith, ap length e)
  short text (inl (inr (inl e))) = omega (arith, ap length e)
  short text (inl (inr (inr e))) = omega (arith, ap length e)
  short text (inr is) = omega (arith, ap length is.same, numbered letter is.number (omega (arith, few, is.below)))

marked_name : (old : List ℕ) → IsName old → length old ≤ 254 → IsName (marked old)
marked_name old is few = record { some = omega arith; most = omega (arith, few); each = is.each }

-- ---- new names

module _ (name : ℕ → List ℕ) (names : List (List ℕ)) (are : AreNames names) where
  not_marked : (i : ℕ) (old : List ℕ) → i < length names → get_or names i [] ≢ marked old
  not_marked i old lt e = absurd (let free : is_reserved (marked old) ≡ false = subst (λ (n : List ℕ). is_reserved n ≡ false) e (are.free i [] lt) in cc)

  apart_at : (i j : ℕ) → i < length names → j < length names → (i ≡ j → ⊥) → get_or names i [] ≢ get_or names j []
  apart_at i j lt lu other same = by (cases_order i j)
    where
      by : (i ≡ j) ⊎ ((i < j) ⊎ (j < i)) → ⊥
      by (inl e) = other e
      by (inr (inl l)) = are.apart i j [] l lu same
      by (inr (inr l)) = are.apart j i [] l lt (sym same)

  -- names that differ become names that differ
  pub new_apart : (a b : List ℕ) → a ≢ b → new_name name names a ≢ new_name name names b
  new_apart a b other = by (index_named name (length names) a) (index_named name (length names) b) refl refl
    where
      by : (o p : Option ℕ) → index_named name (length names) a ≡ o → index_named name (length names) b ≡ p → named_at names a o ≢ named_at names b p
      by (Some i) (Some j) e f same =
          let at = named_so name (length names) i a e in
          let to = named_so name (length names) j b f in
          apart_at i j at.0 to.0 (λ equal. other (sym at.1 ∙ ap name equal ∙ to.1)) same
      by (Some i) None e f same = not_marked i b (named_so name (length names) i a e).0 same
      by None (Some j) e f same = not_marked j a (named_so name (length names) j b f).0 (sym same)
      by None None e f same = other (ap (λ (t : List ℕ). tail t) same)
        where
          tail : List ℕ → List ℕ
          tail [] = []
          tail (x ∷ xs) = xs

  pub new_is_name : (old : List ℕ) → IsName old → length old ≤ 254 → IsName (new_name name names old)
  new_is_name old is few = by (index_named name (length names) old) refl
    where
      by : (o : Option ℕ) → index_named name (length names) old ≡ o → IsName (named_at names old o)
      by (Some i) e = are.named i [] (named_so name (length names) i old e).0
      by None e = marked_name old is few

  pub new_is_no_marker : (old : List ℕ) → new_name name names old ≢ marker_word
  new_is_no_marker old = by (index_named name (length names) old) refl
    where
      by : (o : Option ℕ) → index_named name (length names) old ≡ o → named_at names old o ≢ marker_word
      by (Some i) e same = absurd (let free : is_reserved marker_word ≡ false = subst (λ (n : List ℕ). is_reserved n ≡ false) same (are.free i [] (named_so name (length names) i old e).0) in cc)
      by None e same = absurd (omega (arith, ap (λ (t : List ℕ). get_or t 0 0) same))

-- ---- rows and columns

rows_named : (names : List (List ℕ)) (rows : List MpsRow) → AreNames names → AreExportedNames row_name (length names) (map (λ r. r.name) rows) → AreRows rows → AreRows (named_rows names rows)
rows_named names rows are exported a =
    let exports = all_unmapped (IsExportedName row_name (length names)) (λ (r : MpsRow). r.name) rows exported.each in
    let f = named_row (new_name row_name names) in
    record {
      few = omega (arith, a.few, length-map rows f);
      named = All-map (λ (r : MpsRow). IsName r.name) f rows
          (λ i d lt. new_is_name row_name names are (get_or rows i d).name (a.named i d lt)
          (short 99 (length names) exported.few (get_or rows i d).name (exports i d lt)));
      apart = pairs_mapped (λ (r s : MpsRow). r.name ≢ s.name) f rows (λ i j d lt within. new_apart row_name names are (get_or rows i d).name (get_or rows j d).name (a.apart i j d lt within));
      no_marker = All-map (IsOtherRow marker_word) f rows (λ i d lt. new_is_no_marker row_name names are (get_or rows i d).name);
    }

entries_kept : (f : List ℕ → List ℕ) (columns : List (Column Dec)) → entry_count (map (named_column f) columns) ≡ entry_count columns
entries_kept f [] = refl
entries_kept f (c ∷ columns) =
    let count = λ (c : Column Dec). length c.entries in
    sum_by-cons count (named_column f c) (map (named_column f) columns) ∙ ap (λ (n : ℕ). length c.entries + n) (entries_kept f columns) ∙ sym (sum_by-cons count c columns)

columns_named : (names : List (List ℕ)) (n : ℕ) (columns : List (Column Dec)) → AreNames names
    → AreExportedNames variable_name (length names) (map (λ c. c.name) columns) → AreColumns n columns
    → AreColumns n (named_columns names columns)
columns_named names n columns are exported a =
    let exports = all_unmapped (IsExportedName variable_name (length names)) (λ (c : Column Dec). c.name) columns exported.each in
    let f = named_column {V = Dec} (new_name variable_name names) in
    record {
      few = omega (arith, a.few, length-map columns f);
      few_entries = omega (arith, a.few_entries, entries_kept (new_name variable_name names) columns);
      named = All-map (λ (c : Column Dec). IsName c.name) f columns
          (λ i d lt. new_is_name variable_name names are (get_or columns i d).name (a.named i d lt)
          (short 120 (length names) exported.few (get_or columns i d).name (exports i d lt)));
      apart = pairs_mapped (λ (c e : Column Dec). c.name ≢ e.name) f columns
          (λ i j d lt within. new_apart variable_name names are (get_or columns i d).name (get_or columns j d).name
          (a.apart i j d lt within));
      entries = All-map (λ (c : Column Dec). AreEntries n c.entries) f columns a.entries;
    }

-- ---- the whole program

module _ (m : Mps Dec) (row_names column_names : List (List ℕ)) where
  ranges_kept : AreRanges m.rows m.ranges → AreRanges (named_rows row_names m.rows) m.ranges
  ranges_kept a =
      let f = named_row (new_name row_name row_names) in
      record {
        entries = subst (λ (n : ℕ). AreEntries n m.ranges) (sym (length-map m.rows f)) a.entries;
        bounded = λ i d lt. λ e. a.bounded i d lt (sym (kept_at f (λ (r : MpsRow). r.kind) no_mps_row (λ r. refl) m.rows (get_or m.ranges i d).row) ∙ e);
      }

  -- the parts of the program with other names, each as it is added to those before it
  pub record AreParts : Type 0 where
    pub rows : AreRows (named_rows row_names m.rows)
    pub columns : AreColumns (length (named_rows row_names m.rows)) (named_columns column_names m.columns)
    pub rhs : AreEntries (length (named_rows row_names m.rows)) m.rhs
    pub ranges : AreRanges (named_rows row_names m.rows) m.ranges
    pub bounds : AreBounds dec_value (length (named_columns column_names m.columns)) m.bounds

  pub parts_named : AreNames row_names → AreNames column_names → HasExportedNames (length row_names) (length column_names) m → IsPartOfMps dec_value m → AreParts
  parts_named are_rows are_columns exported a =
      let f = named_row (new_name row_name row_names) in
      let g = named_column {V = Dec} (new_name variable_name column_names) in
      let same : length (map f m.rows) ≡ length m.rows = length-map m.rows f in
      let width : length (map g m.columns) ≡ length m.columns = length-map m.columns g in
      record {
        rows = rows_named row_names m.rows are_rows exported.rows a.rows;
        columns = columns_named column_names (length (map f m.rows)) m.columns are_columns exported.columns (subst (λ (n : ℕ). AreColumns n m.columns) (sym same) a.columns);
        rhs = subst (λ (n : ℕ). AreEntries n m.rhs) (sym same) a.rhs;
        ranges = ranges_kept a.ranges;
        bounds = subst (λ (n : ℕ). AreBounds dec_value n m.bounds) (sym width) a.bounds;
      }

  part_named : IsNameOrEmpty m.name → AreParts → IsPartOfMps dec_value (named m row_names column_names)
  unfolding with_names
  part_named name a = record { name = name; rows = a.rows; columns = a.columns; rhs = a.rhs; ranges = a.ranges; bounds = a.bounds }

  pub complete_named : IsComplete m → IsComplete (named m row_names column_names)
  unfolding with_names
  complete_named a =
      let f = new_name row_name row_names in
      record {
        objective = omega (arith, a.objective, same_objective_row f m.rows, length-map m.rows (named_row f));
        filled = All-map (λ (c : Column Dec). HasEntries c) (named_column (new_name variable_name column_names)) m.columns a.filled;
      }

  pub program_named : AreNames row_names → AreNames column_names → HasExportedNames (length row_names) (length column_names) m → IsMps dec_value m → IsMps dec_value (named m row_names column_names)
  program_named are_rows are_columns exported is = record { part = part_named is.part.name (parts_named are_rows are_columns exported is.part); complete = complete_named is.complete }
