use Rattle.std.proofs.Common.{[], ◌≡◌, ℕ, suc, ◌+◌, ◌<◌, ◌≤◌, ◌∙◌, sym, ap, ap₂, subst, arith, Bool, true, false, List}
use Rattle.std.proofs.Common.{◌∷◌, ◌++◌, length, get_or, drop, take, map, All, Some, add-one, append-nil, drop-cons}
use Rattle.std.proofs.lemmas.List.{length-map, get_or-map, drop_all, take_more, map-append}
use Rattle.std.proofs.lemmas.Option.{slice_get_within, get_or_from_slice_get}
use Rattle.std.specs.List.{slice_get}
use Rattle.mps_model.specs.Mps.{Bound, Entry, Column, MpsRow, Mps, no_mps_row, with_values}
use Rattle.mps_model.specs.declared.kinds.BoundKind.{BoundKind}
use Rattle.mps_model.specs.Text.{entry_line, entry_lines, change_lines, markers_after, column_lines, mps_text_by, section}
use Rattle.mps_model.proofs.Texts.{text_by_values}
use Rattle.exact_numbers.specs.Values.{dec_value, text_of, value_text}
use Rattle.exact_numbers.proofs.Spelling.{value_text-decimal}
use Rattle.exact_numbers.specs.declared.dec.Dec.{Dec}
use Rattle.mps_model.specs.Built.{bound_of, entry_of}
use Rattle.mps_model.specs.Valid.{AreColumns}
use Rattle.text_base.specs.Names.{IsName}
use Rattle.text_base.specs.WordLines.{WordLine, indented, line_text, lines_text, unless_empty}
use Rattle.written_texts.proofs.Writing.{line_after, lines_after, rest_written}

pub markers_more : (b m : Bool) (i : ℕ) → markers_after b m i ≤ i + 1
markers_more false true i = omega arith
markers_more true false i = omega arith
markers_more false false i = omega arith
markers_more true true i = omega arith

-- a fact of the values of records holds of the records
pub terms_in_rows : (n : ℕ) (ts : List (ℕ × Dec)) (es : List (Entry Dec)) → map entry_of ts ≡ es → All (λ e. e.row < n) es → All (λ t. t.0 < n) ts
terms_in_rows n ts es e h = λ k d l.
    let m : k < length es = subst (λ es. k < length es) e (omega (arith, length-map ts entry_of)) in
    subst (λ (x : Entry Dec). x.row < n) (ap (λ es. get_or es k (entry_of d)) (sym e) ∙ get_or-map entry_of ts k d (entry_of d) l) (h k (entry_of d) m)

-- a name that was found is that of a row
record IsRowOf (rows : List MpsRow) (i : ℕ) (name : List ℕ) : Type 0 where
  within : i < length rows
  named : name ≡ (get_or rows i no_mps_row).name

row_found : (rows : List MpsRow) (names : List (List ℕ)) (name : List ℕ) (i : ℕ) → names ≡ map (λ (r : MpsRow). r.name) rows → Some name ≡ slice_get names i → IsRowOf rows i name
row_found rows names name i same found =
    let at : slice_get (map (λ (r : MpsRow). r.name) rows) i ≡ Some name = subst (λ ns. slice_get ns i ≡ Some name) same (sym found) in
    let inside : i < length rows = omega (arith, slice_get_within (map (λ (r : MpsRow). r.name) rows) i name at, length-map rows (λ (r : MpsRow). r.name)) in
    record { within = inside; named = sym (get_or_from_slice_get (map (λ (r : MpsRow). r.name) rows) i name [] at) ∙ get_or-map (λ (r : MpsRow). r.name) rows i no_mps_row [] inside }

pub found_short : (rows : List MpsRow) (names : List (List ℕ)) (name : List ℕ) (i : ℕ)
    → All (λ (r : MpsRow). IsName r.name) rows → names ≡ map (λ (r : MpsRow). r.name) rows → Some name ≡ slice_get names i
    → length name ≤ 255
found_short rows names name i all same found =
    let is = row_found rows names name i same found in
    subst (λ n. length n ≤ 255) (sym is.named) (all i no_mps_row is.within).most

-- one entry more, in a row of that name
pub entry_written : (rows : List MpsRow) (names : List (List ℕ)) (word row : List ℕ) (ts : List (ℕ × Dec)) (i : ℕ) (t : ℕ × Dec) (out0 out1 out2 : List ℕ) → i < length ts → t ≡ get_or ts i t →
    names ≡ map (λ (r : MpsRow). r.name) rows → Some row ≡ slice_get names t.0 →
    out1 ≡ out0 ++ lines_text (entry_lines text_of rows word (map entry_of (take i ts))) → out2 ≡ out1 ++ line_text (indented (word ∷ row ∷ text_of t.1 ∷ [])) →
    out2 ≡ out0 ++ lines_text (entry_lines text_of rows word (map entry_of (take (i + 1) ts)))
entry_written rows names word row ts i t out0 out1 out2 h is same found first second =
    let name = (row_found rows names row t.0 same found).named in
    let line : Entry Dec → WordLine = entry_line text_of rows word in
    let now : out2 ≡ out1 ++ line_text (line (entry_of t)) = second ∙ ap (λ r. out1 ++ line_text (indented (word ∷ r ∷ text_of t.1 ∷ []))) name in
    let more : map line (map entry_of (take (i + 1) ts)) ≡ map line (map entry_of (take i ts)) ++ line (entry_of t) ∷ [] =
    ap (λ xs. map line (map entry_of xs)) (take_more ts i t h ∙ ap (λ x. take i ts ++ x ∷ []) (sym is))
    ∙ ap (map line) (map-append entry_of (take i ts) (t ∷ []))
    ∙ map-append line (map entry_of (take i ts)) (entry_of t ∷ []) in
    line_after out0 out1 out2 (map line (map entry_of (take i ts))) (line (entry_of t)) first now ∙ ap (λ ls. out0 ++ lines_text ls) (sym more)

-- a section's word, and after it its lines
pub section_written : (word : List ℕ) (lines : List WordLine) (out0 out1 out2 : List ℕ)
    → out1 ≡ out0 ++ line_text (word ∷ []) → out2 ≡ out1 ++ lines_text lines
    → out2 ≡ out0 ++ lines_text (section word ∷ lines)
section_written word lines out0 out1 out2 first second =
    lines_after out0 out1 out2 (section word ∷ []) lines (first ∙ ap (λ x. out0 ++ x) (sym (append-nil (line_text (section word))))) second

module _ {V : Type 0} (text : V → List ℕ) (rows : List MpsRow) (cols : List (Column V)) (before : Bool) (i index : ℕ) where
  pub column_written : (c : Column V) (out0 out1 out2 total word : List ℕ) (ts : List (Entry V)) (marked next : Bool) (n : ℕ) → index < length cols → c ≡ get_or cols index c →
      out0 ++ lines_text (column_lines text rows before i (drop index cols)) ≡ total →
      marked ≡ c.marked → next ≡ c.marked → word ≡ c.name → ts ≡ c.entries → n ≡ markers_after before marked i →
      out1 ≡ out0 ++ lines_text (change_lines before marked i) → out2 ≡ out1 ++ lines_text (entry_lines text rows word ts) →
      out2 ++ lines_text (column_lines text rows next n (drop (index + 1) cols)) ≡ total
  unfolding column_lines
  column_written c out0 out1 out2 total word ts marked next n h is start m m2 w t k first second =
      let rest = column_lines text rows c.marked (markers_after before c.marked i) (drop (suc index) cols) in
      let change = change_lines before c.marked i in
      let lines = entry_lines text rows c.name c.entries in
      let split : drop index cols ≡ c ∷ drop (suc index) cols = drop-cons cols index c h ∙ ap (λ x. x ∷ drop (suc index) cols) (sym is) in
      let now : out2 ≡ out0 ++ lines_text (change ++ lines) =
      lines_after out0 out1 out2 change lines (first ∙ ap (λ b. out0 ++ lines_text (change_lines before b i)) m) (second ∙ ap₂ (λ w es. out1 ++ lines_text (entry_lines text rows w es)) w t) in
      let after : column_lines text rows next n (drop (index + 1) cols) ≡ rest =
      ap (λ x. column_lines text rows next n (drop x cols)) (add-one index) ∙ ap₂ (λ b x. column_lines text rows b x (drop (suc index) cols)) m2 (k ∙ ap (λ b. markers_after before b i) m) in
      ap (λ ls. out2 ++ lines_text ls) after ∙ rest_written out0 out2 total (change ++ lines) rest (ap (λ cs. out0 ++ lines_text (column_lines text rows before i cs)) (sym split) ∙ start) now

  pub last_change : (out0 out1 total : List ℕ) → length cols ≤ index →
      out0 ++ lines_text (column_lines text rows before i (drop index cols)) ≡ total → out1 ≡ out0 ++ lines_text (change_lines before false i) → out1 ≡ total
  unfolding column_lines
  last_change out0 out1 total h start last =
      last ∙ sym (ap (λ cs. out0 ++ lines_text (column_lines text rows before i cs)) (drop_all index cols h)) ∙ start

pub column_rows : (n : ℕ) (cols : List (Column Dec)) (index : ℕ) (c : Column Dec) (ts : List (ℕ × Dec)) → index < length cols → AreColumns n cols → c ≡ get_or cols index c →
    map entry_of ts ≡ c.entries → All (λ t. t.0 < n) ts
column_rows n cols index c ts h all is e = terms_in_rows n ts c.entries e (subst (λ (c : Column Dec). All (λ (e : Entry Dec). e.row < n) c.entries) (sym is) (all.entries index c h).within)

pub bounds_in_columns : (n : ℕ) (ts : List (BoundKind × ℕ × Dec)) (bs : List (Bound Dec)) → map bound_of ts ≡ bs → All (λ b. b.column < n) bs → All (λ t. t.1 < n) ts
bounds_in_columns n ts bs e h = λ k d l.
    let m : k < length bs = subst (λ es. k < length es) e (omega (arith, length-map ts bound_of)) in
    subst (λ (x : Bound Dec). x.column < n) (ap (λ es. get_or es k (bound_of d)) (sym e) ∙ get_or-map bound_of ts k d (bound_of d) l) (h k (bound_of d) m)

pub unless_map : {A B : Type 0} (f : A → B) (xs : List A) (ys : List B) (text : List WordLine) → map f xs ≡ ys → unless_empty xs text ≡ unless_empty ys text
unless_map f [] ys text e = ap (λ ys. unless_empty ys text) e
unless_map f (x ∷ xs) ys text e = ap (λ ys. unless_empty ys text) e

-- ---- spellings and values
same_texts : (λ d. value_text (dec_value d)) ≡ text_of
same_texts = λ i. λ d. value_text-decimal d.m d.e d.spelled i

pub text_of_values : (m : Mps Dec) → mps_text_by text_of m ≡ mps_text_by value_text (with_values dec_value m)
text_of_values m = ap (λ t. mps_text_by t m) (sym same_texts) ∙ sym (text_by_values value_text dec_value m)
