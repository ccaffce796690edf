-- The texts of a desk in memory, by place and by name.
use Rattle.std.proofs.Common.{◌≡◌, ◌<◌, ℕ, zero, suc, List, [], ◌∷◌, length, drop, get_or, set, Bool, true, false}
use Rattle.std.proofs.Common.{Option, Some, None, arith, string_bytes, ◌≤◌, ◌+◌, ◌-◌, ◌++◌, take, refl, sym, ap, ◌∙◌}
use Rattle.std.proofs.Common.{drop-drop}
use Rattle.std.proofs.lemmas.List.{take-append-drop, length-drop}
use Rattle.std.proofs.Math.Seq.{take-length}
use Rattle.std.specs.Str.{bytes_eq}
use Rattle.text_base.specs.declared.memory.Entry.{Entry}
use Rattle.std.specs.Prelude.{MatchOption}
use Rattle.std.specs.List.{position, position_or_len}
use Rattle.std.proofs.lemmas.List.Quantifiers.{position-Some}
use Rattle.text_base.specs.Memory.{text_named, with_text}
use Rattle.text_base.proofs.NamePlaces.{bytes_same, bytes_self, past_all}
use Rattle.text_base.specs.InsideEntries.{entry_pair, entries, text_at, text_set}

-- the test for a text of that name
abbrev pub has_name : List ℕ → Entry → Bool
has_name name e = bytes_eq (string_bytes e.name) name

-- place i holds the first text of that name
pub record IsPlace (es : List Entry) (name : List ℕ) (i : ℕ) : Type 0 where
  pub within : i < length es
  pub named : text_named (entries es) name ≡ Some (text_at (entries es) i)
  pub stored : (text : List ℕ) → with_text (entries es) name text ≡ text_set (entries es) i text

first_place : (es : List Entry) (name : List ℕ) (i : ℕ) (d : Entry) → i < length es
    → has_name name (get_or es i d) ≡ true → ((k : ℕ) → k < i → has_name name (get_or es k d) ≡ false) → IsPlace es name i
first_place [] name i d lt is none = absurd (omega arith)
first_place (e ∷ es) name zero d lt is none = record { within = lt; named = rw is refl; stored = λ text. rw is refl }
first_place (e ∷ es) name (suc i) d lt is none =
    let other : has_name name e ≡ false = none 0 (omega arith) in
    let more = first_place es name i d (omega arith) is (λ k below. none (suc k) (omega arith)) in
    record { within = lt; named = rw other more.named; stored = λ text. rw (other, more.stored text) refl }

pub place_found : (es : List Entry) (name : List ℕ) (i : ℕ) → position (has_name name) es ≡ Some i → IsPlace es name i
place_found [] name i e = absurd (cc)
place_found (x ∷ es) name i e = let at = position-Some (has_name name) (x ∷ es) i x e in first_place (x ∷ es) name i x at.0 at.1 at.2

-- no text has that name
pub record IsUnnamed (es : List Entry) (name : List ℕ) : Type 0 where
  pub named : text_named (entries es) name ≡ None
  pub stored : (text : List ℕ) → with_text (entries es) name text ≡ entries es ++ (name, text) ∷ []

no_place : (es : List Entry) (name : List ℕ) → length es ≤ position_or_len (has_name name) es → IsUnnamed es name
no_place [] name le = record { named = refl; stored = λ text. refl }
no_place (e ∷ es) name le = by (no_place es name) (has_name name e) refl
  where
    by : (length es ≤ position_or_len (has_name name) es → IsUnnamed es name) → (b : Bool) → has_name name e ≡ b → IsUnnamed (e ∷ es) name
    by rest true is = absurd (omega (arith, rw is at le))
    by rest false is =
        let more = rest (omega (arith, rw is at le)) in
        record { named = rw is more.named; stored = λ text. rw (is, more.stored text) refl }

pub place_none : (es : List Entry) (name : List ℕ) → position (has_name name) es ≡ None → IsUnnamed es name
place_none es name e = no_place es name (past_all (has_name name) es e)

-- one entry with another text
pub set_entry : (es : List Entry) (i : ℕ) (d e : Entry) → i < length es → string_bytes e.name ≡ string_bytes (get_or es i d).name → entries (set es i e) ≡ text_set (entries es) i e.text.items
set_entry [] i d e lt same = absurd (omega arith)
set_entry (x ∷ es) zero d e lt same = ap (λ (n : List ℕ). (n, e.text.items) ∷ entries es) same
set_entry (x ∷ es) (suc i) d e lt same = ap (λ (ps : List (List ℕ × List ℕ)). entry_pair x ∷ ps) (set_entry es i d e (omega arith) same)

-- past the end there is no text
pub text_at-past : (es : List (List ℕ × List ℕ)) (i : ℕ) → length es ≤ i → text_at es i ≡ []
text_at-past [] i le = refl
text_at-past (e ∷ es) zero le = absurd (omega arith)
text_at-past (e ∷ es) (suc i) le = text_at-past es i (omega arith)

pub text_at_get : (es : List Entry) (i : ℕ) (d : Entry) → i < length es → text_at (entries es) i ≡ (get_or es i d).text.items
text_at_get [] i d lt = absurd (omega arith)
text_at_get (e ∷ es) zero d lt = refl
text_at_get (e ∷ es) (suc i) d lt = text_at_get es i d (omega arith)

pub past_entries : (es : List Entry) (i : ℕ) → length es ≤ i → text_at (entries es) i ≡ []
past_entries [] i le = refl
past_entries (e ∷ es) zero le = absurd (omega arith)
past_entries (e ∷ es) (suc i) le = past_entries es i (omega arith)

pub drop_one : (n : ℕ) (xs : List ℕ) → drop (n + 1) xs ≡ drop 1 (drop n xs)
drop_one n xs = sym (drop-drop 1 n xs)

-- what a read leaves of the text, and what it gives
pub read_rest : (text buf : List ℕ) (taken n : ℕ) → take n buf ≡ take n (drop taken text) → drop taken text ≡ take n buf ++ drop (taken + n) text
read_rest text buf taken n same =
    sym (take-append-drop n (drop taken text)) ∙ ap (λ l. l ++ drop n (drop taken text)) (sym same) ∙ ap (λ l. take n buf ++ l) (drop-drop n taken text)

pub found_named : (es : List Entry) (name : List ℕ) (o : Option ℕ) → o ≡ position (has_name name) es
    → MatchOption o (text_named (entries es) name ≡ None) (λ i. (i < length es)
    × (text_named (entries es) name ≡ Some (text_at (entries es) i)))
found_named es name None e = (place_none es name (sym e)).named
found_named es name (Some i) e = let place = place_found es name i (sym e) in (place.within, place.named)

-- a read that gave nothing left what was left
pub none_left : (text : List ℕ) (taken n : ℕ) → n ≡ 0 → drop taken text ≡ [] → drop (taken + n) text ≡ []
none_left text taken n none e = ap (λ k. drop k text) (omega arith) ∙ e

-- all that follows the first k bytes
pub rest_whole : (xs text : List ℕ) (k : ℕ) → xs ≡ text → take (length xs - k) (drop k xs) ≡ drop k text
rest_whole xs text k e = rw e (ap (λ n. take n (drop k text)) (sym (length-drop k text)) ∙ take-length (drop k text))

-- a stored text is found by its name
pub text_named-with : (es : List (List ℕ × List ℕ)) (name text : List ℕ) → text_named (with_text es name text) name ≡ Some text
text_named-with [] name text = rw (bytes_self name) refl
text_named-with (e ∷ es) name text = by (text_named-with es name text) (bytes_eq e.0 name) refl
  where
    by : text_named (with_text es name text) name ≡ Some text → (b : Bool) → bytes_eq e.0 name ≡ b → text_named (with_text (e ∷ es) name text) name ≡ Some text
    by rest true is = rw (is, is) refl
    by rest false is = rw (is, is) rest

-- each other name keeps its text
pub text_named-others : (es : List (List ℕ × List ℕ)) (name text other : List ℕ) → bytes_eq name other ≡ false → text_named (with_text es name text) other ≡ text_named es other
text_named-others [] name text other differs = rw differs refl
text_named-others (e ∷ es) name text other differs = by (text_named-others es name text other differs) (bytes_eq e.0 name) refl
  where
    by : text_named (with_text es name text) other ≡ text_named es other → (b : Bool) → bytes_eq e.0 name ≡ b → text_named (with_text (e ∷ es) name text) other ≡ text_named (e ∷ es) other
    by rest true is =
        let first : bytes_eq e.0 other ≡ false = rw (bytes_same e.0 name is) differs in
        rw (is, first) refl
    by rest false is = rw (is, rest) refl
