-- The free form of a line: it is no longer than the line, and with a space behind it, it is one
-- that a text can have.
use Rattle.std.proofs.Common.{◌≡◌, ◌∙◌, ◌⊎◌, inl, inr, ℕ, suc, ◌+◌, ◌-◌, ◌==◌, ◌≤◌, Bool, true, false, not, ◌||◌, cond}
use Rattle.std.proofs.Common.{List, [], ◌∷◌, ◌++◌, length, take, drop, refl, ap, subst, arith, length-append}
use Rattle.std.proofs.Common.{length-drop}
use Rattle.std.specs.Prelude.{codes}
use Rattle.std.specs.List.{AllByRecursion, slice_range, prefix_len, suffix_len}
use Rattle.std.proofs.lemmas.List.{length-take, take_all, reverse-append}
use Rattle.text_base.proofs.WalkSteps.{no_end-take, no_end-append}
use Rattle.text_base.specs.Cut.{HasNoEnd, IsTextLine}
use Rattle.text_base.specs.Lines.{trimmed}
use Rattle.text_base.specs.Words.{is_blank, ends_word, onto_word, words_of}
use Rattle.mps_words.specs.Sections.{is_left_out}
use Rattle.text_base.proofs.LineLemmas.{no_end-drop}
use Rattle.fixed_mps.specs.Fields.{free, is_as_it_is, is_misplaced, spaced, has_no_number, kind_field, name_field}
use Rattle.fixed_mps.specs.Fields.{row_field, value_field, next_row_field, next_value_field, field_text, value_text}
use Rattle.fixed_mps.specs.Fields.{fields_text, columns_text, text_by, cut_text}

-- ---- parts of a line

-- no LF, and at most k bytes
record IsPart (k : ℕ) (text : List ℕ) : Type 0 where
  no_end : HasNoEnd text
  short : length text ≤ k

parts-wider : (k : ℕ) (words : List (List ℕ)) → AllByRecursion (IsPart k) words → AllByRecursion (IsPart (suc k)) words
parts-wider k [] all = tt
parts-wider k (word ∷ words) all =
    (record { no_end = all.0.no_end; short = omega (arith, all.0.short) }, parts-wider k words all.1)

parts-onto : (k b : ℕ) (begins : Bool) (words : List (List ℕ)) → (b == 10) ≡ false → AllByRecursion (IsPart k) words → AllByRecursion (IsPart (suc k)) (onto_word b begins words)
parts-onto k b begins [] e all = (record { no_end = (e, tt); short = omega arith }, tt)
parts-onto k b true (word ∷ words) e all = (record { no_end = (e, tt); short = omega arith }, parts-wider k (word ∷ words) all)
parts-onto k b false (word ∷ words) e all =
    (record { no_end = (e, all.0.no_end); short = omega (arith, all.0.short) }, parts-wider k words all.1)

-- the words of a line are parts of it
words-parts : (bytes : List ℕ) → HasNoEnd bytes → AllByRecursion (IsPart (length bytes)) (words_of bytes)
words-parts [] h = tt
words-parts (b ∷ bytes) h = by (is_blank b) (words-parts bytes h.1)
  where
    by : (t : Bool) → AllByRecursion (IsPart (length bytes)) (words_of bytes) → AllByRecursion (IsPart (suc (length bytes))) (cond t (words_of bytes) (onto_word b (ends_word bytes) (words_of bytes)))
    by true all = parts-wider (length bytes) (words_of bytes) all
    by false all = parts-onto (length bytes) b (ends_word bytes) (words_of bytes) h.0 all

few-onto : (k b : ℕ) (begins : Bool) (words : List (List ℕ)) → length words ≤ k → length (onto_word b begins words) ≤ suc k
few-onto k b begins [] few = omega arith
few-onto k b true (word ∷ words) few = omega (arith, few)
few-onto k b false (word ∷ words) few = omega (arith, few)

-- there are no more words than bytes
words-few : (bytes : List ℕ) → length (words_of bytes) ≤ length bytes
words-few [] = omega arith
words-few (b ∷ bytes) = by (is_blank b) (words-few bytes)
  where
    by : (t : Bool) → length (words_of bytes) ≤ length bytes → length (cond t (words_of bytes) (onto_word b (ends_word bytes) (words_of bytes))) ≤ suc (length bytes)
    by true few = omega (arith, few)
    by false few = few-onto (length bytes) b (ends_word bytes) (words_of bytes) few

-- ---- the fields of a line

range-length : (line : List ℕ) (a b : ℕ) → 1 ≤ length (slice_range line a b) → (a + length (slice_range line a b) ≤ length line) × (a + length (slice_range line a b) ≤ b)
range-length line a b some =
    let len = length-take (b - a) (drop a line) in
    let rest = length-drop a line in
    (omega (arith, some, len, rest), omega (arith, some, len, rest))

-- a text of l bytes is empty, or it and s bytes before it end before column b, and with a line of n bytes
abbrev Fits : ℕ → ℕ → ℕ → ℕ → Type 0
Fits s b n l = (l ≡ 0) ⊎ ((s + l ≤ n) × (s + l ≤ b))

record IsFieldText (line : List ℕ) (s b : ℕ) (text : List ℕ) : Type 0 where
  no_end : HasNoEnd text
  fits : Fits s b (length line) (length text)

field : (line : List ℕ) (s a b : ℕ) → a ≡ suc s → HasNoEnd line → IsFieldText line s b (field_text line (a, b))
field line s a b e h =
    let clear = no_end-take (b - a) (drop a line) (no_end-drop a line h) in
    by (words_of (slice_range line a b)) (words-parts (slice_range line a b) clear) (words-few (slice_range line a b))
  where
    by : (words : List (List ℕ)) → AllByRecursion (IsPart (length (slice_range line a b))) words → length words ≤ length (slice_range line a b) → IsFieldText line s b (spaced (take 1 words))
    by [] all few = record { no_end = tt; fits = inl refl }
    by (word ∷ words) all few =
        let within = range-length line a b (omega (arith, few)) in
        let short = all.0.short in
        let len = length-append word [] in
        record {
          no_end = (refl, no_end-append word [] all.0.no_end tt);
          fits = inr (omega (arith, e, within.0, short, len), omega (arith, e, within.1, short, len));
        }

-- texts of t bytes end before column k, and with a line of n bytes
record Within (t k n : ℕ) : Type 0 where
  before : t ≤ k
  inside : t ≤ n

within-more : (t k n s b l : ℕ) → Within t k n → k ≤ s → s ≤ b → Fits s b n l → Within (t + l) b n
within-more t k n s b l h le le' (inl e) = record { before = omega (arith, h.before, le, le', e); inside = omega (arith, h.inside, e) }
within-more t k n s b l h le le' (inr f) = record { before = omega (arith, h.before, le, f.1); inside = omega (arith, h.before, le, f.0) }

value : (line : List ℕ) → HasNoEnd line → IsFieldText line 23 36 (value_text line)
value line h = by (has_no_number line) (field line 23 24 36 refl h)
  where
    by : (t : Bool) → IsFieldText line 23 36 (field_text line value_field) → IsFieldText line 23 36 (cond t [] (field_text line value_field))
    by true text = record { no_end = tt; fits = inl refl }
    by false text = text

fields-part : (line : List ℕ) → HasNoEnd line → IsPart (length line) (fields_text line)
fields-part line h =
    let n = length line in
    let a = field_text line kind_field in
    let b = field_text line name_field in
    let c = field_text line row_field in
    let d = value_text line in
    let e = field_text line next_row_field in
    let f = field_text line next_value_field in
    let at_a = field line 0 1 3 refl h in
    let at_b = field line 3 4 12 refl h in
    let at_c = field line 13 14 22 refl h in
    let at_d = value line h in
    let at_e = field line 38 39 47 refl h in
    let at_f = field line 48 49 61 refl h in
    let none : Within 0 0 n = record { before = omega arith; inside = omega arith } in
    let to_a = within-more 0 0 n 0 3 (length a) none (omega arith) (omega arith) at_a.fits in
    let to_b = within-more (0 + length a) 3 n 3 12 (length b) to_a (omega arith) (omega arith) at_b.fits in
    let to_c = within-more (0 + length a + length b) 12 n 13 22 (length c) to_b (omega arith) (omega arith) at_c.fits in
    let to_d = within-more (0 + length a + length b + length c) 22 n 23 36 (length d) to_c (omega arith) (omega arith) at_d.fits in
    let to_e = within-more (0 + length a + length b + length c + length d) 36 n 38 47 (length e) to_d (omega arith) (omega arith) at_e.fits in
    let to_f = within-more (0 + length a + length b + length c + length d + length e) 47 n 48 61 (length f) to_e (omega arith) (omega arith) at_f.fits in
    let names = no_end-append (a ++ b) c (no_end-append a b at_a.no_end at_b.no_end) at_c.no_end in
    let next = no_end-append e f at_e.no_end at_f.no_end in
    record {
      no_end = no_end-append (a ++ b ++ c ++ d) (e ++ f) (no_end-append (a ++ b ++ c) d names at_d.no_end) next;
      short = whole a b c d e f to_f.inside;
    }
  where
    whole : (a b c d e f : List ℕ) → 0 + length a + length b + length c + length d + length e + length f ≤ length line → length (a ++ b ++ c ++ d ++ (e ++ f)) ≤ length line
    whole a b c d e f le =
        omega (arith, le, length-append (a ++ b ++ c ++ d) (e ++ f), length-append (a ++ b ++ c) d, length-append (a ++ b) c, length-append a b, length-append e f)

-- ---- the free form

columns-part : (line : List ℕ) → HasNoEnd line → 3 ≤ length line → IsPart (length line) (columns_text line)
unfolding columns_text
columns-part line h three = by (is_misplaced line) (fields-part line h)
  where
    by : (t : Bool) → IsPart (length line) (fields_text line) → IsPart (length line) (cond t (codes " FR") (fields_text line))
    by true part = record { no_end = (refl, (refl, (refl, tt))); short = omega (arith, three) }
    by false part = part

cut-part : (b : ℕ) (bytes : List ℕ) → is_blank b ≡ true → HasNoEnd (b ∷ bytes) → IsPart (length (b ∷ bytes)) (cut_text (b ∷ bytes))
cut-part b bytes blank h =
    let same : words_of bytes ≡ words_of (b ∷ bytes) = rw blank refl in
    subst (λ (words : List (List ℕ)). IsPart (suc (length bytes)) (text_by words (b ∷ bytes))) same (by (words_of bytes) (words-parts bytes h.1) (words-few bytes))
  where
    by : (words : List (List ℕ)) → AllByRecursion (IsPart (length bytes)) words → length words ≤ length bytes → IsPart (suc (length bytes)) (text_by words (b ∷ bytes))
    by [] all few = record { no_end = (refl, tt); short = omega arith }
    by (word ∷ []) all few = record { no_end = (refl, all.0.no_end); short = omega (arith, all.0.short) }
    by (word ∷ next ∷ words) all few = columns-part (b ∷ bytes) h (omega (arith, few))

data-blank : (left data_line : Bool) → (left || not data_line) ≡ false → data_line ≡ true
data-blank true data_line e = absurd cc
data-blank false true e = refl
data-blank false false e = absurd cc

-- what is left of a data line, and its free form
data-part : (line : List ℕ) → is_as_it_is line ≡ false → HasNoEnd line → IsPart (length (take 61 line)) (cut_text (take 61 line))
data-part [] e h = absurd cc
data-part (b ∷ bytes) e h = cut-part b (take 60 bytes) (data-blank (is_left_out (b ∷ bytes)) (is_blank b) e) (no_end-take 61 (b ∷ bytes) h)

-- ---- with a space behind it

ends-free : (bytes : List ℕ) → trimmed (bytes ++ 32 ∷ []) ≡ bytes ++ 32 ∷ []
ends-free bytes =
    let none : suffix_len (λ b. b == 13) (bytes ++ 32 ∷ []) ≡ 0 = ap (prefix_len (λ b. b == 13)) (reverse-append bytes (32 ∷ [])) in
    ap (λ (k : ℕ). take (length (bytes ++ 32 ∷ []) - k) (bytes ++ 32 ∷ [])) none ∙ take_all (length (bytes ++ 32 ∷ []) - 0) (bytes ++ 32 ∷ []) (omega arith)

pub text_line : (line : List ℕ) → is_as_it_is line ≡ false → IsTextLine line → IsTextLine (cut_text (take 61 line) ++ 32 ∷ [])
text_line line e h =
    let part = data-part line e h.one.no_end in
    record {
      one = record { no_end = no_end-append (cut_text (take 61 line)) (32 ∷ []) part.no_end (refl, tt); no_cr = ends-free (cut_text (take 61 line)) };
      short = omega (arith, part.short, length-take 61 line, length-append (cut_text (take 61 line)) (32 ∷ []));
    }

-- ---- no free line is longer than its line

pub short_form : (line : List ℕ) → HasNoEnd line → length (free line) ≤ length line
unfolding free
short_form line h = by (is_as_it_is line) refl
  where
    by : (t : Bool) → is_as_it_is line ≡ t → length (cond t line (cut_text (take 61 line))) ≤ length line
    by true e = omega arith
    by false e = let part = data-part line e h in omega (arith, part.short, length-take 61 line)
