-- A part that may be added leaves a program in order.
use Rattle.std.proofs.Common.{◌≡◌, ◌≢◌, ℕ, zero, suc, ◌+◌, ◌-◌, ◌<◌, ◌≤◌, ◌^◌, ◌∙◌, sym, ap, subst, refl, arith, Bool, List, [], ◌∷◌, ◌++◌, length, get_or, set, length-append, length-set, All}
use Rattle.std.proofs.Math.ListN.{get_or-append}
use Rattle.std.proofs.lemmas.List.Elements.{All-push, All-set}
use Rattle.std.proofs.lemmas.List.Quantifiers.{all_pairs_push}
use Rattle.std.proofs.lemmas.List.Sums.{sum_by-append, sum_by-cons, sum_by-set}
use Rattle.exact_numbers.specs.Rational.{zero_ℚ}
use Rattle.text_base.specs.Names.{IsName}
use Rattle.exact_numbers.specs.declared.dec.Dec.{Dec}
use Rattle.exact_numbers.specs.Values.{dec_value}
use Rattle.mps_model.specs.declared.kinds.RowKind.{RowKind}
use Rattle.mps_model.specs.declared.kinds.BoundKind.{BoundKind}
use Rattle.mps_model.specs.Mps.{MpsRow, Entry, Column, Bound, Mps, no_mps_row}
use Rattle.mps_model.specs.Valid.{AreRows, AreColumns, AreEntries, AreRanges, AreBounds, IsPartOfMps, IsBounded, IsOtherRow, marker_word, IsOtherEntry, IsOtherBound, IsWithoutNumber, entry_count}
use Rattle.mps_model.specs.Built.{CanAddRow, CanAddColumn, CanAddEntry, CanAddRhs, CanAddRange, CanAddBound, with_entry_last, last_entries}

count_push : {A : Type 0} (xs : List A) (x : A) → length (xs ++ x ∷ []) ≡ length xs + 1
count_push xs x = length-append xs (x ∷ [])

pub entry_count-push : (cs : List (Column Dec)) (c : Column Dec) → entry_count (cs ++ c ∷ []) ≡ entry_count cs + length c.entries
entry_count-push cs c = let sum = sum_by-append (λ (c : Column Dec). length c.entries) cs (c ∷ []) in omega (arith, sum)

-- ---- rows
more_rows : (n k : ℕ) (es : List (Entry Dec)) → n ≤ k → AreEntries n es → AreEntries k es
more_rows n k es h a =
    record {
      within = λ i d l. let below : (get_or es i d).row < n = a.within i d l in omega (arith, below, h);
      apart = a.apart;
    }

columns_with_row : (n k : ℕ) (cs : List (Column Dec)) → n ≤ k → AreColumns n cs → AreColumns k cs
columns_with_row n k cs h a =
    record {
      few = a.few;
      few_entries = a.few_entries;
      named = a.named;
      apart = a.apart;
      entries = λ i d l. more_rows n k (get_or cs i d).entries h (a.entries i d l);
    }

ranges_with_row : (rows : List MpsRow) (r : MpsRow) (es : List (Entry Dec)) → AreRanges rows es → AreRanges (rows ++ r ∷ []) es
ranges_with_row rows r es a =
    record {
      entries = more_rows (length rows) (length (rows ++ r ∷ [])) es (omega (arith, count_push rows r)) a.entries;
      bounded = λ i d l. λ e. a.bounded i d l (ap (λ (x : MpsRow). x.kind) (sym (get_or-append rows (r ∷ []) no_mps_row (get_or es i d).row (a.entries.within i d l))) ∙ e);
    }

rows_with_row : (m : Mps Dec) (r : MpsRow) → AreRows m.rows → CanAddRow m r.name → IsName r.name → AreRows (m.rows ++ r ∷ [])
rows_with_row m r a h named =
    record {
      few = omega (arith, h.few, count_push m.rows r);
      named = All-push (λ (x : MpsRow). IsName x.name) m.rows r a.named named;
      apart = all_pairs_push (λ (x y : MpsRow). x.name ≢ y.name) m.rows r a.apart h.new;
      no_marker = All-push (λ (x : MpsRow). IsOtherRow marker_word x) m.rows r a.no_marker h.no_marker;
    }

pub row_added : (m old : Mps Dec) (name : List ℕ) (kind : RowKind) → IsPartOfMps dec_value m → m ≡ old → CanAddRow old name → IsName name →
    IsPartOfMps dec_value (record m { rows = m.rows ++ record { name = name; kind = kind } ∷ [] })
row_added m old name kind a is h named =
    let r : MpsRow = record { name = name; kind = kind } in
    let more : length m.rows ≤ length (m.rows ++ r ∷ []) = omega (arith, count_push m.rows r) in
    record {
      name = a.name;
      rows = rows_with_row m r a.rows (subst (λ x. CanAddRow x name) (sym is) h) named;
      columns = columns_with_row _ _ m.columns more a.columns;
      rhs = more_rows _ _ m.rhs more a.rhs;
      ranges = ranges_with_row m.rows r m.ranges a.ranges;
      bounds = a.bounds;
    }

-- ---- columns
bounds_with_column : (n k : ℕ) (bs : List (Bound Dec)) → n ≤ k → AreBounds dec_value n bs → AreBounds dec_value k bs
bounds_with_column n k bs h a =
    record {
      within = λ i d l. let below : (get_or bs i d).column < n = a.within i d l in omega (arith, below, h);
      apart = a.apart;
      zeros = a.zeros;
    }

no_entries : (n : ℕ) → AreEntries {V = Dec} n []
no_entries n = record { within = λ i d l. absurd (omega (arith, l)); apart = λ i j d l k. absurd (omega (arith, k)) }

-- a column of these entries
pub entries_added : (m old : Mps Dec) (name : List ℕ) (marked : Bool) (es : List (Entry Dec)) → IsPartOfMps dec_value m → m ≡ old → CanAddColumn old name →
    entry_count old.columns + length es ≤ 2 ^ 24 → AreEntries (length old.rows) es → IsName name →
    IsPartOfMps dec_value (record m { columns = m.columns ++ record { name = name; marked = marked; entries = es } ∷ [] })
entries_added m old name marked es a is h0 few0 inside0 named =
    let c : Column Dec = record { name = name; marked = marked; entries = es } in
    let h : CanAddColumn m name = subst (λ x. CanAddColumn x name) (sym is) h0 in
    let few : entry_count m.columns + length es ≤ 2 ^ 24 = subst (λ (x : Mps Dec). entry_count x.columns + length es ≤ 2 ^ 24) (sym is) few0 in
    let inside : AreEntries (length m.rows) es = subst (λ (x : Mps Dec). AreEntries (length x.rows) es) (sym is) inside0 in
    let more : length m.columns ≤ length (m.columns ++ c ∷ []) = omega (arith, count_push m.columns c) in
    record {
      name = a.name;
      rows = a.rows;
      columns = record {
        few = omega (arith, h.few, count_push m.columns c);
        few_entries = omega (arith, few, sum_by-append (λ (c : Column Dec). length c.entries) m.columns (c ∷ []), sum_by-cons (λ (c : Column Dec). length c.entries) c []);
        named = All-push (λ (c : Column Dec). IsName c.name) m.columns c a.columns.named named;
        apart = all_pairs_push (λ (c d : Column Dec). c.name ≢ d.name) m.columns c a.columns.apart h.new;
        entries = All-push (λ (c : Column Dec). AreEntries (length m.rows) c.entries) m.columns c a.columns.entries inside;
      };
      rhs = a.rhs;
      ranges = a.ranges;
      bounds = bounds_with_column _ _ m.bounds more a.bounds;
    }

pub column_added : (m old : Mps Dec) (name : List ℕ) (marked : Bool) → IsPartOfMps dec_value m → m ≡ old → CanAddColumn old name → IsName name →
    IsPartOfMps dec_value (record m { columns = m.columns ++ record { name = name; marked = marked; entries = [] } ∷ [] })
column_added m old name marked a is h named =
    let few : entry_count m.columns ≤ 2 ^ 24 = a.columns.few_entries in
    entries_added m old name marked [] a is h (omega (arith, few, ap (λ (x : Mps Dec). entry_count x.columns) is)) (no_entries (length old.rows)) named

-- ---- entries
one_more : (n : ℕ) (es : List (Entry Dec)) (e : Entry Dec) → AreEntries n es → e.row < n → All (IsOtherEntry e.row) es → AreEntries n (es ++ e ∷ [])
one_more n es e a h new =
    record {
      within = All-push (λ (e : Entry Dec). e.row < n) es e a.within h;
      apart = all_pairs_push (λ (e g : Entry Dec). e.row ≢ g.row) es e a.apart new;
    }

pub rhs_added : (m old : Mps Dec) (row : ℕ) (value : Dec) → IsPartOfMps dec_value m → m ≡ old → CanAddRhs old row →
    IsPartOfMps dec_value (record m { rhs = m.rhs ++ record { row = row; value = value } ∷ [] })
rhs_added m old row value a is h0 =
    let h : CanAddRhs m row = subst (λ x. CanAddRhs x row) (sym is) h0 in
    record {
      name = a.name;
      rows = a.rows;
      columns = a.columns;
      rhs = one_more (length m.rows) m.rhs (record { row = row; value = value }) a.rhs h.within h.new;
      ranges = a.ranges;
      bounds = a.bounds;
    }

pub range_added : (m old : Mps Dec) (row : ℕ) (value : Dec) → IsPartOfMps dec_value m → m ≡ old → CanAddRange old row →
    IsPartOfMps dec_value (record m { ranges = m.ranges ++ record { row = row; value = value } ∷ [] })
range_added m old row value a is h0 =
    let h : CanAddRange m row = subst (λ x. CanAddRange x row) (sym is) h0 in
    let e : Entry Dec = record { row = row; value = value } in
    record {
      name = a.name;
      rows = a.rows;
      columns = a.columns;
      rhs = a.rhs;
      ranges = record {
        entries = one_more (length m.rows) m.ranges e a.ranges.entries h.within h.new;
        bounded = All-push (λ (e : Entry Dec). IsBounded m.rows e.row) m.ranges e a.ranges.bounded h.bounded;
      };
      bounds = a.bounds;
    }

pub bound_added : (m old : Mps Dec) (kind : BoundKind) (column : ℕ) (value : Dec) → IsPartOfMps dec_value m → m ≡ old → CanAddBound old kind column value →
    IsPartOfMps dec_value (record m { bounds = m.bounds ++ record { kind = kind; column = column; value = value } ∷ [] })
bound_added m old kind column value a is h0 =
    let h : CanAddBound m kind column value = subst (λ x. CanAddBound x kind column value) (sym is) h0 in
    let b : Bound Dec = record { kind = kind; column = column; value = value } in
    record {
      name = a.name;
      rows = a.rows;
      columns = a.columns;
      rhs = a.rhs;
      ranges = a.ranges;
      bounds = record {
        within = All-push (λ (b : Bound Dec). b.column < length m.columns) m.bounds b a.bounds.within h.within;
        apart = all_pairs_push (λ (b c : Bound Dec). IsOtherBound c.kind c.column b) m.bounds b a.bounds.apart h.new;
        zeros = All-push (λ (b : Bound Dec). IsWithoutNumber b.kind → dec_value b.value ≡ zero_ℚ) m.bounds b a.bounds.zeros h.zero;
      };
    }

-- ---- an entry of the last column
last_at : (e : Entry Dec) (cols : List (Column Dec)) (k : ℕ) (c : Column Dec) → length cols ≡ suc k
    → c ≡ get_or cols k c → set cols k (record c { entries = c.entries ++ e ∷ [] }) ≡ with_entry_last e cols
last_at e [] k c h is = absurd (omega arith)
last_at e (d ∷ []) zero c h is = ap (λ (c : Column Dec). record c { entries = c.entries ++ e ∷ [] } ∷ []) is
last_at e (d ∷ []) (suc k) c h is = absurd (omega arith)
last_at e (d ∷ f ∷ cols) zero c h is = absurd (omega arith)
last_at e (d ∷ f ∷ cols) (suc k) c h is = ap (λ cs. d ∷ cs) (last_at e (f ∷ cols) k c (omega arith) is)

last_entries_at : (cols : List (Column Dec)) (k : ℕ) (c : Column Dec) → length cols ≡ suc k → c ≡ get_or cols k c → last_entries cols ≡ c.entries
last_entries_at [] k c h is = absurd (omega arith)
last_entries_at (d ∷ []) zero c h is = ap (λ (c : Column Dec). c.entries) (sym is)
last_entries_at (d ∷ []) (suc k) c h is = absurd (omega arith)
last_entries_at (d ∷ f ∷ cols) zero c h is = absurd (omega arith)
last_entries_at (d ∷ f ∷ cols) (suc k) c h is = last_entries_at (f ∷ cols) k c (omega arith) is

-- a column in place of one with its name
name_kept : (cols : List (Column Dec)) (k i : ℕ) (c v d : Column Dec) → c ≡ get_or cols k c → v.name ≡ c.name → (get_or (set cols k v) i d).name ≡ (get_or cols i d).name
name_kept [] k i c v d is same = refl
name_kept (x ∷ cols) zero zero c v d is same = same ∙ ap (λ (c : Column Dec). c.name) is
name_kept (x ∷ cols) zero (suc i) c v d is same = refl
name_kept (x ∷ cols) (suc k) zero c v d is same = refl
name_kept (x ∷ cols) (suc k) (suc i) c v d is same = name_kept cols k i c v d is same

column_with_entry : (n : ℕ) (cols : List (Column Dec)) (k : ℕ) (c : Column Dec) (e : Entry Dec) → AreColumns n cols → k < length cols → c ≡ get_or cols k c → e.row < n → entry_count cols < 2 ^ 24 →
    All (IsOtherEntry e.row) c.entries → AreColumns n (set cols k (record c { entries = c.entries ++ e ∷ [] }))
column_with_entry n cols k c e a h is inside few new =
    let v : Column Dec = record c { entries = c.entries ++ e ∷ [] } in
    let at : entry_count (set cols k v) + length (get_or cols k c).entries ≡ entry_count cols + length v.entries = sum_by-set (λ (c : Column Dec). length c.entries) cols k v c h in
    let at_c : entry_count (set cols k v) + length c.entries ≡ entry_count cols + length v.entries =
    subst (λ (x : Column Dec). entry_count (set cols k v) + length x.entries ≡ entry_count cols + length v.entries)
    (sym is) at in
    record {
      few = omega (arith, a.few, length-set cols k v);
      few_entries = omega (arith, at_c, few, count_push c.entries e);
      named = All-set (λ (c : Column Dec). IsName c.name) cols k v (subst (λ (c : Column Dec). IsName c.name) (sym is) (a.named k c h)) a.named;
      apart = λ i j d l m. λ same. a.apart i j d l (omega (arith, m, length-set cols k v)) (sym (name_kept cols k i c v d is refl) ∙ same ∙ name_kept cols k j c v d is refl);
      entries = All-set (λ (c : Column Dec). AreEntries n c.entries) cols k v
          (one_more n c.entries e (subst (λ (c : Column Dec). AreEntries n c.entries) (sym is) (a.entries k c h)) inside
          new) a.entries;
    }

pub entry_last : (m old : Mps Dec) (e : Entry Dec) (l : ℕ) (c v : Column Dec) → m ≡ old → 0 < length old.columns
    → l ≡ length m.columns → c ≡ get_or m.columns (l - 1) c → v ≡ record c { entries = c.entries ++ e ∷ [] } →
    record m { columns = set m.columns (l - 1) v } ≡ record old { columns = with_entry_last e old.columns }
entry_last m old e l c v is some same at more =
    let some_m : 0 < length m.columns = subst (λ (x : Mps Dec). 0 < length x.columns) (sym is) some in
    let last : set m.columns (l - 1) v ≡ with_entry_last e m.columns = ap (λ v. set m.columns (l - 1) v) more ∙ last_at e m.columns (l - 1) c (omega (arith, some_m, same)) at in
    ap (λ cs. record m { columns = cs }) last ∙ ap (λ (x : Mps Dec). record x { columns = with_entry_last e x.columns }) is

pub entry_added : (m old : Mps Dec) (row : ℕ) (value : Dec) (l : ℕ) (c v : Column Dec) → IsPartOfMps dec_value m
    → m ≡ old → CanAddEntry old row → l ≡ length m.columns → c ≡ get_or m.columns (l - 1) c →
    v ≡ record c { entries = c.entries ++ record { row = row; value = value } ∷ [] } → IsPartOfMps dec_value (record m { columns = set m.columns (l - 1) v })
entry_added m old row value l c v a is h0 same at more =
    let h : CanAddEntry m row = subst (λ x. CanAddEntry x row) (sym is) h0 in
    let e : Entry Dec = record { row = row; value = value } in
    let k : length m.columns ≡ suc (l - 1) = omega (arith, h.some, same) in
    let new : All (IsOtherEntry row) c.entries = subst (λ es. All (IsOtherEntry row) es) (last_entries_at m.columns (l - 1) c k at) h.new in
    let columns : AreColumns (length m.rows) (set m.columns (l - 1) v) =
    subst (λ (v : Column Dec). AreColumns (length m.rows) (set m.columns (l - 1) v)) (sym more)
    (column_with_entry (length m.rows) m.columns (l - 1) c e a.columns (omega (arith, k)) at h.within h.few new) in
    record {
      name = a.name;
      rows = a.rows;
      columns = columns;
      rhs = a.rhs;
      ranges = a.ranges;
      bounds = bounds_with_column (length m.columns) (length (set m.columns (l - 1) v)) m.bounds (omega (arith, length-set m.columns (l - 1) v)) a.bounds;
    }
