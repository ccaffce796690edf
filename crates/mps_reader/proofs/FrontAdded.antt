-- Rows, and columns with their first entries, that are taken at once.
use Rattle.std.proofs.Common.{◌≡◌, ◌∙◌, ℕ, ◌+◌, ◌<◌, ◌^◌, Bool, true, false, List, [], ◌∷◌, ◌++◌, length, replicate, Some, None, Ok, refl, sym, ap, subst, arith, append_assoc}
use Rattle.std.proofs.Math.Bool.{and-false}
use Rattle.std.specs.Prelude.{All, nat_le, slice_set}
use Rattle.std.specs.Str.{bytes_eq}
use Rattle.std.proofs.lemmas.Bool.Decides.{nat_tests}
use Rattle.std.proofs.lemmas.List.{length-map, get_or-replicate}
use Rattle.std.proofs.lemmas.List.Elements.{All-cons, All-head, All-tail}
use Rattle.std.proofs.lemmas.List.Sums.{sum_by-append}
use Rattle.text_base.specs.Judged.{first_reason, Takes}
use Rattle.text_base.specs.Names.{IsName}
use Rattle.text_base.specs.declared.grammar.Front.{Front}
use Rattle.text_base.proofs.FrontLemmas.{front_few}
use Rattle.text_base.proofs.NamePlaces.{bytes_other, place_none}
use Rattle.exact_numbers.specs.declared.dec.Dec.{Dec}
use Rattle.mps_model.specs.declared.kinds.RowKind.{RowKind}
use Rattle.mps_model.specs.Built.{CanAddColumn, CanAddEntries, CanAddRow, with_entry_last}
use Rattle.mps_model.specs.Mps.{Column, Entry, Mps, MpsRow}
use Rattle.mps_model.specs.Valid.{entry_count, marker_word}
use Rattle.mps_words.specs.declared.keyword.Keyword.TheVariants.{Columns, Rows}
use Rattle.mps_reader.specs.declared.sides.Sides.{Sides}
use Rattle.mps_reader.specs.InsideHeld.{Held, IsKept, MayPair, no_sides, program}
use Rattle.mps_reader.specs.InsideHeldSteps.{if_row, with_first_entry, with_held_column, with_held_column_line, with_held_entries, with_new_column, with_row}
use Rattle.mps_reader.specs.InsideLines.{GoesOn, IsFreeRow, IsNext, IsRowPair, IsRowText, MayBegin, TakesLines}
use Rattle.mps_reader.specs.Saying.{Draft, column_names, is_current, is_row_name, last_name, place_of, row_in, row_kind_of, row_names}
use Rattle.mps_words.specs.Sections.{last_of}
use Rattle.mps_reader.specs.Tests.{Standing, column_name_tests, column_tests, entry_line_tests, most_entries, row_tests}
use Rattle.mps_words.proofs.CodeLemmas.{name_is}
use Rattle.mps_reader.proofs.FrontLines.{MayGive, below, may_give, pair_taken, row_there}
use Rattle.mps_reader.proofs.KeptLemmas.{can_add_column, can_add_row, entry_may, row_kept}
use Rattle.mps_reader.proofs.SideLemmas.{entries_taken, new_column_may}

-- a list is not full
not_full : (n most : ℕ) → n < most → nat_le most n ≡ false
not_full n most lt = grind (arith, nat_tests, lt)

-- ---- rows

few_rows : (h : Held) → IsKept h → length h.rows < 2 ^ 21 → length (program h).rows < 2 ^ 21
few_rows h kept few = omega (arith, few, ap (length {A = List ℕ}) kept.rows, length-map (program h).rows (λ (r : MpsRow). r.name))

row_name : (name : List ℕ) → IsName name → bytes_eq name marker_word ≡ false → is_row_name name ≡ true
row_name name named other = rw (name_is name named, other) refl

row_says : (word name : List ℕ) (kind : RowKind) → is_row_name name ≡ true → row_kind_of word ≡ Some kind → row_in (word ∷ name ∷ []) ≡ Some (record { name = name; kind = kind })
unfolding row_in
row_says word name kind named says = rw (named, says) refl

pub row_can : (h : Held) (text name rest : List ℕ) (kind : RowKind) → IsKept h → IsRowText text kind name rest
    → bytes_eq name marker_word ≡ false → place_of h.rows name ≡ None → length h.rows < 2 ^ 21
    → CanAddRow (program h) name
row_can h text name rest kind kept r other new few = can_add_row h name kept new (few_rows h kept few) (row_name name r.is_name other)

row_fine : (d : Draft) (word name : List ℕ) (kind : RowKind)
    → row_in (word ∷ name ∷ []) ≡ Some (record { name = name; kind = kind }) → place_of (row_names d.mps) name ≡ None
    → length d.mps.rows < 2 ^ 21 → first_reason (row_tests d (word ∷ name ∷ [])) ≡ None
unfolding row_tests
row_fine d word name kind says new few = rw (says, new, not_full (length d.mps.rows) (2 ^ 21) few) refl

pub next_is_row : (h : Held) (text name rest : List ℕ) (kind : RowKind) → IsKept h
    → last_of h.standing.begun ≡ Some Rows → IsRowText text kind name rest → bytes_eq name marker_word ≡ false
    → place_of h.rows name ≡ None → length h.rows < 2 ^ 21
    → IsNext Rows h (with_row h (record { name = name; kind = kind })) text rest
next_is_row h text name rest kind kept last r other new few =
    let says = row_says r.word name kind (row_name name r.is_name other) r.says in
    record {
      words = r.word ∷ name ∷ [];
      some = omega arith;
      few = omega arith;
      line = record { parts = r.parts ∙ append_assoc (32 ∷ r.word) (32 ∷ name) (10 ∷ rest); each = (r.is_word, (r.is_name, tt)) };
      current = last;
      none = row_fine h.standing.draft r.word name kind says (ap (λ (ns : List (List ℕ)). place_of ns name) (sym kept.rows) ∙ new) (few_rows h kept few);
      is = ap (if_row h) (sym says);
    }

pub row_added : (h new : Held) (name : List ℕ) (kind : RowKind) → IsKept h → last_of h.standing.begun ≡ Some Rows
    → CanAddRow (program h) name → new ≡ with_row h (record { name = name; kind = kind }) → IsKept new
row_added h new name kind kept last can is = subst IsKept (sym is) (row_kept h (record { name = name; kind = kind }) kept last can.few)

-- ---- columns

few_columns : (h : Held) → IsKept h → length h.columns < 2 ^ 21 → length (program h).columns < 2 ^ 21
few_columns h kept few = omega (arith, few, ap (length {A = List ℕ}) kept.columns, length-map (program h).columns (λ (c : Column Dec). c.name))

not_last : (ns : List (List ℕ)) (name : List ℕ) → All (λ n. bytes_eq name n ≡ false) ns → 0 < length name → bytes_eq name (last_name ns) ≡ false
unfolding last_name
not_last [] name all some = bytes_other name [] (λ e. omega (arith, some, ap (length {A = ℕ}) e))
not_last (n ∷ []) name all some = All-head (λ m. bytes_eq name m ≡ false) n [] all
not_last (n ∷ o ∷ ns) name all some = not_last (o ∷ ns) name (All-tail (λ m. bytes_eq name m ≡ false) n (o ∷ ns) all) some

not_current : (h : Held) (name : List ℕ) → IsKept h → IsName name → place_of h.columns name ≡ None → is_current h.standing.draft name ≡ false
not_current h name kept named new =
    let none : place_of (column_names (program h)) name ≡ None = ap (λ (ns : List (List ℕ)). place_of ns name) (sym kept.columns) ∙ new in
    rw (not_last (column_names (program h)) name (place_none (column_names (program h)) name none) named.some) (and-false h.standing.draft.current)

column_fine : (d : Draft) (name : List ℕ) → IsName name → is_current d name ≡ false
    → place_of (column_names d.mps) name ≡ None → length d.mps.columns < 2 ^ 21
    → first_reason (column_name_tests d name) ≡ None
unfolding column_name_tests
column_fine d name named current new few = rw (name_is name named, current, new, not_full (length d.mps.columns) (2 ^ 21) few) refl

abbrev begun : Held → List ℕ → Held
begun h name = with_new_column h name

abbrev fresh : Held → List ℕ → Column Dec
fresh h name = record { name = name; marked = h.standing.draft.marked; entries = [] }

begun_count : (h : Held) (name : List ℕ) → entry_count (program (begun h name)).columns ≡ entry_count (program h).columns
begun_count h name = omega (arith, sum_by-append (λ (c : Column Dec). length c.entries) (program h).columns (fresh h name ∷ []))

module _ (h : Held) (name behind rest : List ℕ) (place : ℕ) (value : Dec) (kept : IsKept h)
    (last : last_of h.standing.begun ≡ Some Columns) (b : MayBegin h name) (p : IsRowPair h.rows behind place value rest)
  where
    begun_may : MayPair Columns (begun h name)
    begun_may = new_column_may h (begun h name) name kept last (few_columns h kept b.few) refl

    there : place < length (program h).rows
    there = row_there h p.name place kept p.at

    pub entry_within : place < length h.marks
    entry_within = omega (arith, there, (kept.marks Columns last tt).room)

    first_free : IsFreeRow Columns (begun h name) place
    first_free = record {
      new = get_or-replicate (length h.marks) place false false entry_within;
      room = ap (nat_le most_entries) (begun_count h name) ∙ b.room;
      bounded = refl;
    }

    first_may : MayGive Columns (program (begun h name)) p.name place
    first_may = may_give Columns (begun h name) p.name place begun_may p.at first_free p.other

    column_taken : IsName name → Takes (column_tests h.standing.draft (name ∷ p.name ∷ p.pair.of_number.word ∷ []))
        (with_held_column_line h (name ∷ p.name ∷ p.pair.of_number.word ∷ [])) (Ok tt)
        (with_first_entry h name (record { row = place; value = value }))
    unfolding column_tests
    column_taken named =
        let word : List ℕ = p.pair.of_number.word in
        let ws : List (List ℕ) = name ∷ p.name ∷ word ∷ [] in
        let new = with_first_entry h name (record { row = place; value = value }) in
        let other = not_current h name kept named b.new in
        let none : place_of (column_names (program h)) name ≡ None = ap (λ (ns : List (List ℕ)). place_of ns name) (sym kept.columns) ∙ b.new in
        let same : begun h name ≡ with_held_column h name = rw other refl in
        let entries : Takes (entry_line_tests h.standing.draft ws) (with_held_entries h ws) (Ok tt) new =
        entries_taken h (begun h name) ws (p.name ∷ word ∷ []) name (Ok tt) new refl refl refl
        (column_fine h.standing.draft name named other none (few_columns h kept b.few), same)
        (pair_taken Columns (begun h name) p.name word place value first_may p.pair.of_number.says) in
        rw p.other entries

    pub next_is_column : (text : List ℕ) → IsName name → text ≡ 32 ∷ name ++ 32 ∷ behind → IsNext Columns h (with_first_entry h name (record { row = place; value = value })) text rest
    next_is_column text named parts =
        let n = p.pair.of_number in
        let t = column_taken named in
        record {
          words = name ∷ p.name ∷ n.word ∷ [];
          some = omega arith;
          few = omega arith;
          line = record { parts = parts ∙ ap (λ bs. 32 ∷ name ++ 32 ∷ bs) (p.pair.parts ∙ ap (λ bs. p.name ++ 32 ∷ bs) n.parts); each = (named, (p.pair.is_name, (n.is_word, tt))) };
          current = last;
          none = t.0;
          is = t.1;
        }

    pub column_can : CanAddColumn (program h) name
    column_can = can_add_column h name kept b.new (few_columns h kept b.few)

    pub entries_can : CanAddEntries (program h) ((place, value) ∷ [])
    entries_can =
        let less = below (entry_count (program h).columns) (2 ^ 24) b.room in
        record {
          few = omega (arith, less);
          rows = record {
            within = All-cons (λ (e : Entry Dec). e.row < length (program h).rows)
                (record { row = place; value = value }) [] there (λ k d lt. absurd (omega arith));
            apart =
                λ i j d lt within. absurd (omega (arith, lt, within));
          };
        }

    pub column_added : IsKept (with_first_entry h name (record { row = place; value = value }))
    column_added = (entry_may Columns (begun h name) (with_first_entry h name (record { row = place; value = value })) (record { row = place; value = value }) begun_may first_may.can refl).kept

-- a new column with one entry is a new one that then has the entry
pub first_entry : (e : Entry Dec) (name : List ℕ) (marked : Bool) (cs : List (Column Dec))
    → with_entry_last e (cs ++ record { name = name; marked = marked; entries = [] } ∷ [])
    ≡ cs ++ record { name = name; marked = marked; entries = e ∷ [] } ∷ []
first_entry e name marked [] = refl
first_entry e name marked (c ∷ []) = refl
first_entry e name marked (c ∷ d ∷ cs) = ap (λ xs. c ∷ xs) (first_entry e name marked (d ∷ cs))

-- what is held is that
pub first_added : (h g new : Held) (name : List ℕ) (e : Entry Dec) (m : Mps Dec) (columns : List (List ℕ)) (sides : List Sides) (marks : List Bool) → g ≡ h
    → new ≡ record g {
      standing = record g.standing {
        draft =
            record { mps = m; marked = g.standing.draft.marked; current = true };
      };
      columns = columns;
      sides = sides;
      marks = marks;
      entries = g.entries + 1;
    }
    → m ≡ record (program g) {
      columns = (program g).columns
          ++ record { name = name; marked = g.standing.draft.marked; entries = e ∷ [] } ∷ [];
    }
    → columns ≡ g.columns ++ name ∷ [] → sides ≡ g.sides ++ no_sides ∷ []
    → marks ≡ slice_set (replicate (length g.marks) false) e.row true
    → new ≡ with_first_entry h name e
first_added h g new name e m columns sides marks same is mps_is columns_are sides_are marks_are =
    let all : m ≡ record (program g) { columns = with_entry_last e ((program g).columns ++ record { name = name; marked = g.standing.draft.marked; entries = [] } ∷ []) } =
    mps_is ∙ ap (λ (cs : List (Column Dec)). record (program g) { columns = cs }) (sym (first_entry e name g.standing.draft.marked (program g).columns)) in
    let made : record g {
      standing = record g.standing {
        draft =
            record { mps = m; marked = g.standing.draft.marked; current = true };
      };
      columns = columns;
      sides = sides;
      marks = marks;
      entries = g.entries + 1;
    } ≡ with_first_entry g name e =
    λ i. record g {
      standing = record g.standing {
        draft = record
            { mps = all i; marked = g.standing.draft.marked; current = true };
      };
      columns = columns_are i;
      sides =
          sides_are i;
      marks = marks_are i;
      entries = g.entries + 1;
    } in
    subst (λ (x : Held). new ≡ with_first_entry x name e) same (is ∙ made)

-- ---- one after the other

no_lines : (ls : List (List ℕ)) (s t : Standing) → length ls ≡ 0 → GoesOn s ls t → t ≡ s
no_lines [] s t e g = g
no_lines (l ∷ ls) s t e g = absurd (omega (arith, e))

pub none_standing : (h mid : Held) (text : List ℕ) (f : Front) → TakesLines h text f mid → f.len ≡ 0 → mid.standing ≡ h.standing
none_standing h mid text f t none =
    let few = front_few text f t.lines t.is in
    let zero : length t.lines ≡ 0 = omega (arith, none, few, t.is.count) in
    no_lines t.lines h.standing mid.standing zero t.goes

-- nothing was taken, and then a line
pub after_none : (h mid new : Held) (text : List ℕ) (f g : Front) → TakesLines h text f mid → f.len ≡ 0 → TakesLines mid text g new → TakesLines h text g new
after_none h mid new text f g t none u = record { lines = u.lines; is = u.is; goes = subst (λ s. GoesOn s u.lines new.standing) (none_standing h mid text f t none) u.goes }
