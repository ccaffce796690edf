-- When a part of a program may be added, the parts before it being those of a program.
use Rattle.std.proofs.Common.{◌≡◌, ◌≢◌, ◌∙◌, ℕ, zero, ◌+◌, ◌<◌, List, [], ◌∷◌, ◌++◌, length, map, take, get_or, All, refl, sym, ap, subst, arith, length-append, length-take, length-take-le}
use Rattle.std.specs.List.{AllPairs}
use Rattle.std.proofs.lemmas.List.{length-map, get_or-map, get_or-take, get_or_default, take_more, take-map, map-append}
use Rattle.std.proofs.Math.ListN.{get_or-append}
use Rattle.std.proofs.Math.Seq.{get_or-append_seam}
use Rattle.std.proofs.lemmas.List.Elements.{All-take}
use Rattle.std.proofs.lemmas.List.Sums.{sum_by-take-le}
use Rattle.exact_numbers.specs.Rational.{zero_ℚ}
use Rattle.text_base.specs.Names.{IsName}
use Rattle.exact_numbers.specs.declared.dec.Dec.{Dec}
use Rattle.exact_numbers.specs.Values.{dec_value}
use Rattle.mps_model.specs.declared.kinds.RowKind.{RowKind}
use Rattle.mps_model.specs.Mps.{MpsRow, Entry, Column, Bound, Mps}
use Rattle.mps_model.specs.Valid.{AreRows, AreColumns, AreEntries, AreRanges, AreBounds, IsOtherRow, IsOtherColumn, IsOtherEntry, IsOtherBound, IsBounded, IsWithoutNumber, entry_count}
use Rattle.name_files.specs.Renamed.{named_row, named_column, named}
use Rattle.mps_model.specs.Built.{CanAddRow, CanAddColumn, CanAddEntries, CanAddRhs, CanAddRange, CanAddBound, entry_of}
use Rattle.mps_model.proofs.Adding.{entry_count-push}

-- ---- the first elements of a list

module _ {X : Type 0} (R : X → X → Type 0) where
  -- what holds of each two holds of an element and those before it
  pub before : (xs : List X) (i : ℕ) (x : X) → AllPairs R xs → i < length xs → x ≡ get_or xs i x → All (λ y. R y x) (take i xs)
  before xs i x pairs lt is k d within =
      let below : k < i = omega (arith, within, length-take-le i xs (omega (arith, lt))) in
      let there : get_or (take i xs) k d ≡ get_or xs k d = get_or-take i xs k d below in
      let here : get_or xs i d ≡ x = get_or_default xs i d x lt ∙ sym is in
      subst (λ y. R y x) (sym there) (subst (λ y. R (get_or xs k d) y) here (pairs k i d below lt))

  pairs_taken : (xs : List X) (i : ℕ) → AllPairs R xs → AllPairs R (take i xs)
  pairs_taken xs i pairs j k d lt within =
      let inside : k < i = omega (arith, within, length-take i xs) in
      let inner : k < length xs = omega (arith, within, length-take i xs) in
      subst (λ y. R y (get_or (take i xs) k d)) (sym (get_or-take i xs j d (omega (arith, lt, inside)))) (subst (λ y. R (get_or xs j d) y) (sym (get_or-take i xs k d inside)) (pairs j k d lt inner))

module _ {X Y : Type 0} (f : X → Y) (xs : List X) (i : ℕ) (x : X) (lt : i < length xs) (is : x ≡ get_or xs i x) where
  pub one_more : map f (take i xs) ++ f x ∷ [] ≡ map f (take (i + 1) xs)
  one_more = sym (map-append f (take i xs) (x ∷ [])) ∙ ap (map f) (ap (λ y. take i xs ++ y ∷ []) is ∙ sym (take_more xs i x lt))

  pub at_mapped : f x ≡ get_or (map f xs) i (f x)
  at_mapped = sym (get_or-map f xs i x (f x) lt ∙ ap f (sym is))

  pub within_mapped : i < length (map f xs)
  within_mapped = omega (arith, lt, length-map xs f)

-- ---- rows

pub can_add_row : (rows : List MpsRow) (i : ℕ) (r : MpsRow) (m : Mps Dec) → AreRows rows → i < length rows → r ≡ get_or rows i r → m.rows ≡ take i rows → CanAddRow m r.name
can_add_row rows i r m a lt is e =
    record {
      few = omega (arith, a.few, lt, ap length e, length-take-le i rows (omega (arith, lt)));
      no_marker = subst (IsOtherRow _) (sym is) (a.no_marker i r lt);
      new = subst (All (IsOtherRow r.name)) (sym e) (before (λ (r s : MpsRow). r.name ≢ s.name) rows i r a.apart lt is);
    }

-- ---- entries, right sides, ranges and bounds

pub can_add_rhs : (es : List (Entry Dec)) (i : ℕ) (e : Entry Dec) (m : Mps Dec) → AreEntries (length m.rows) es → i < length es → e ≡ get_or es i e → m.rhs ≡ take i es → CanAddRhs m e.row
can_add_rhs es i e m a lt is same =
    record {
      within = subst (λ (e : Entry Dec). e.row < length m.rows) (sym is) (a.within i e lt);
      new = subst (All (IsOtherEntry e.row)) (sym same) (before (λ (e g : Entry Dec). e.row ≢ g.row) es i e a.apart lt is);
    }

pub can_add_range : (es : List (Entry Dec)) (i : ℕ) (e : Entry Dec) (m : Mps Dec) → AreRanges m.rows es → i < length es → e ≡ get_or es i e → m.ranges ≡ take i es → CanAddRange m e.row
can_add_range es i e m a lt is same =
    record {
      within = subst (λ (e : Entry Dec). e.row < length m.rows) (sym is) (a.entries.within i e lt);
      bounded = subst (λ (e : Entry Dec). IsBounded m.rows e.row) (sym is) (a.bounded i e lt);
      new = subst (All (IsOtherEntry e.row)) (sym same) (before (λ (e g : Entry Dec). e.row ≢ g.row) es i e a.entries.apart lt is);
    }

pub can_add_bound : (bs : List (Bound Dec)) (i : ℕ) (b : Bound Dec) (m : Mps Dec)
    → AreBounds dec_value (length m.columns) bs → i < length bs → b ≡ get_or bs i b → m.bounds ≡ take i bs
    → CanAddBound m b.kind b.column b.value
can_add_bound bs i b m a lt is same =
    record {
      within = subst (λ (b : Bound Dec). b.column < length m.columns) (sym is) (a.within i b lt);
      new = subst (All (IsOtherBound b.kind b.column)) (sym same) (before (λ (b c : Bound Dec). IsOtherBound c.kind c.column b) bs i b a.apart lt is);
      zero = subst (λ (b : Bound Dec). IsWithoutNumber b.kind → dec_value b.value ≡ zero_ℚ) (sym is) (a.zeros i b lt);
    }

-- ---- columns

-- the first columns of some are columns
pub columns_taken : (n i : ℕ) (columns : List (Column Dec)) → AreColumns n columns → AreColumns n (take i columns)
columns_taken n i columns a =
    record {
      few = omega (arith, a.few, length-take i columns);
      few_entries = omega (arith, a.few_entries, sum_by-take-le (λ (c : Column Dec). length c.entries) columns i);
      named = All-take (λ (c : Column Dec). IsName c.name) i columns a.named;
      apart = pairs_taken (λ (c d : Column Dec). c.name ≢ d.name) columns i a.apart;
      entries = All-take (λ (c : Column Dec). AreEntries n c.entries) i columns a.entries;
    }

-- the last of the columns
module _ (n : ℕ) (done : List (Column Dec)) (c : Column Dec) (a : AreColumns n (done ++ c ∷ [])) where
  pub can_add_column : (m : Mps Dec) → m.columns ≡ done → CanAddColumn m c.name
  can_add_column m same =
      let more : length (done ++ c ∷ []) ≡ length done + 1 = length-append done (c ∷ []) in
      let others : All (IsOtherColumn c.name) done = λ k d lt.
      subst (λ (x : Column Dec). x.name ≢ c.name) (get_or-append done (c ∷ []) d k lt)
      (subst (λ (x : Column Dec). (get_or (done ++ c ∷ []) k d).name ≢ x.name) (get_or-append_seam done c [] d) (a.apart k (length done) d lt (omega (arith, more)))) in
      record { few = omega (arith, a.few, more, ap length same); new = subst (All (IsOtherColumn c.name)) (sym same) others }

  are_entries : AreEntries n c.entries
  are_entries = subst (λ (x : Column Dec). AreEntries n x.entries) (get_or-append_seam done c [] c) (a.entries (length done) c (omega (arith, length-append done (c ∷ []))))

  pub can_add_entries : (m : Mps Dec) → m.columns ≡ done → length m.rows ≡ n → (ts : List (ℕ × Dec)) → map entry_of ts ≡ c.entries → CanAddEntries m ts
  can_add_entries m same rows ts is =
      let size : length ts ≡ length c.entries = sym (length-map ts entry_of) ∙ ap length is in
      record {
        few = omega (arith, a.few_entries, ap entry_count same, entry_count-push done c, size);
        rows = subst (λ k. AreEntries k (map entry_of ts)) (sym rows) (subst (AreEntries n) (sym is) are_entries);
      }

-- ---- rows with other names

pub row_put : (f : List ℕ → List ℕ) (xs : List MpsRow) (i : ℕ) (r : MpsRow) → i < length xs → r ≡ get_or xs i r → (name : List ℕ) (kind : RowKind) → name ≡ f r.name → kind ≡ r.kind →
    (old m new : Mps Dec) → m ≡ record old { rows = map (named_row f) (take i xs) } → new ≡ record m { rows = m.rows ++ record { name = name; kind = kind } ∷ [] } →
    new ≡ record old { rows = map (named_row f) (take (i + 1) xs) }
row_put f xs i r lt is name kind called same old m new first second =
    rw (second, called, same, first, ← one_more (named_row f) xs i r lt is) refl

-- ---- columns with other names

module _ (f : List ℕ → List ℕ) (xs : List (Column Dec)) (i : ℕ) (x : Column Dec) (lt : i < length xs) (is : x ≡ get_or xs i x) (name : List ℕ) (called : name ≡ f x.name) where
  pub can_put_column : (n : ℕ) (m : Mps Dec) → AreColumns n (map (named_column f) xs) → length m.rows ≡ n
      → m.columns ≡ map (named_column f) (take i xs) → AreColumns (length m.rows)
      (m.columns ++ record x { name = name } ∷ [])
  can_put_column n m a rows same =
      let more : take (i + 1) (map (named_column f) xs) ≡ m.columns ++ record x { name = name } ∷ [] =
      take-map (named_column f) (i + 1) xs ∙ sym (one_more (named_column f) xs i x lt is)
      ∙ ap (λ cs. cs ++ named_column f x ∷ []) (sym same) ∙ ap (λ y. m.columns ++ record x { name = y } ∷ []) (sym called) in
      subst (λ k. AreColumns k (m.columns ++ record x { name = name } ∷ [])) (sym rows) (subst (AreColumns n) more (columns_taken n (i + 1) (map (named_column f) xs) a))

  pub column_put : (old m new : Mps Dec) → m ≡ record old { columns = map (named_column f) (take i xs) } → new ≡ record m { columns = m.columns ++ record x { name = name } ∷ [] } →
      new ≡ record old { columns = map (named_column f) (take (i + 1) xs) }
  column_put old m new first second =
      rw (second, called, first, ← one_more (named_column f) xs i x lt is) refl
