-- The column at a place of the order, and its entries as they are read.
use Rattle.std.proofs.Common.{◌≡◌, ℕ, ◌+◌, ◌<◌, ◌∙◌, sym, ap, subst, List, ◌∷◌, length, get_or, map, drop, All}
use Rattle.std.proofs.lemmas.List.{get_or_default}
use Rattle.exact_numbers.specs.declared.dec.Dec.{Dec}
use Rattle.nl_model.specs.Draft.{Draft}
use Rattle.mps_model.specs.Built.{entry_of}
use Rattle.mps_model.specs.Mps.{Entry, Column, Mps, no_column}
use Rattle.mps_model.specs.Valid.{AreEntries}
use Rattle.mps_import.specs.Import.{entries_at}
use Rattle.mps_program.specs.Places.{listed}
use Rattle.mps_import.specs.InsideUses.{IsOnItsWay, entries_left, use_of}
use Rattle.mps_import.specs.Variables.{order_of_columns}
use Rattle.mps_import.specs.declared.rows.RowUse.{RowUse}
use Rattle.mps_import.specs.declared.rows.RowUse.TheVariants.{Unused}
use Rattle.mps_program.proofs.LoopLemmas.{drop_is, fact_is}
use Rattle.mps_import.proofs.PartLemmas.{all_columns}
use Rattle.mps_program.proofs.PartLemmas.{entry_within}
use Rattle.mps_import.proofs.TermLemmas.{use_at}

module _ (m : Mps Dec) where
  pub column_inside : (js : List ℕ) (p : ℕ) → js ≡ order_of_columns m → p < length js → get_or js p 0 < length m.columns
  column_inside js p e h = subst (λ (xs : List ℕ). get_or xs p 0 < length m.columns) (sym e) (all_columns m p 0 (subst (λ (xs : List ℕ). p < length xs) e h))

  -- these terms are the entries of column j, each in a row that there is
  pub record AreEntriesAt (j : ℕ) (es : List (ℕ × Dec)) : Type 0 where
    pub same : map entry_of es ≡ entries_at m j
    pub within : All (λ (e : Entry Dec). e.row < length m.rows) (map entry_of es)

  pub entries_read : (j : ℕ) (cs : List (Column Dec)) (c : Column Dec) (es : List (ℕ × Dec)) → j < length m.columns
      → cs ≡ m.columns → c ≡ get_or cs j c → All (λ (x : Column Dec). AreEntries (length m.rows) x.entries) m.columns →
      map entry_of es ≡ c.entries → AreEntriesAt j es
  entries_read j cs c es inside columns is valid read =
      let column : c ≡ get_or m.columns j c = is ∙ ap (λ xs. get_or xs j c) columns in
      let own = (fact_is m.columns j c inside column (λ (x : Column Dec). AreEntries (length m.rows) x.entries) valid).within in
      record {
        same = read ∙ ap (λ (x : Column Dec). x.entries) (column ∙ get_or_default m.columns j c no_column inside);
        within = subst (λ (xs : List (Entry Dec)). All (λ (e : Entry Dec). e.row < length m.rows) xs) (sym read) own;
      }

  -- entry t has this use, and is the first of those that are still to come
  pub record IsNextEntry (p : ℕ) (js : List ℕ) (rest : List (Entry Dec)) (t : ℕ × Dec) (what : RowUse) (d : Draft) : Type 0 where
    pub within : t.0 < length m.rows
    pub use_is : what ≡ use_of m.rows t.0
    pub way : IsOnItsWay m (entries_left m p (entry_of t ∷ rest) js) d

  pub next_entry : (j p : ℕ) (js : List ℕ) (es : List (ℕ × Dec)) (k : ℕ) (t : ℕ × Dec) (uses : List RowUse) (what : RowUse) (d : Draft) → AreEntriesAt j es → k < length es → t ≡ get_or es k t →
      uses ≡ listed (use_of m.rows) (length m.rows) → what ≡ get_or uses t.0 Unused
      → IsOnItsWay m (entries_left m p (map entry_of (drop k es)) js) d
      → IsNextEntry p js (map entry_of (drop (k + 1) es)) t what d
  next_entry j p js es k t uses what d read h is used found way =
      let lt : t.0 < length m.rows = entry_within es k t h is (length m.rows) read.within in
      record {
        within = lt;
        use_is = found ∙ use_at m uses used t.0 Unused lt;
        way = subst (λ (ts : List (ℕ × Dec)). IsOnItsWay m (entries_left m p (map entry_of ts) js) d) (drop_is es k t h is) way;
      }
