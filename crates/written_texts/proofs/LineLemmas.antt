-- Written lines are lines of a text, and its lines are the written ones.
use Rattle.std.proofs.Common.{◌≡◌, ◌∙◌, ℕ, zero, suc, ◌+◌, ◌-◌, ◌*◌, ◌^◌, ◌<◌, ◌≤◌, ◌==◌, true, false, List, [], ◌∷◌}
use Rattle.std.proofs.Common.{◌++◌, length, map, take, get_or, refl, sym, ap, arith, nat_le, length-append, subst}
use Rattle.std.proofs.lemmas.Bool.{and_parts, leb-true}
use Rattle.std.proofs.lemmas.Bool.Decides.{nat_tests}
use Rattle.std.proofs.lemmas.List.{take_all}
use Rattle.std.proofs.lemmas.List.Folds.{flat_map-map}
use Rattle.std.proofs.lemmas.List.Sums.{suffix_len_is}
use Rattle.std.specs.List.{AllByRecursion, suffix_len}
use Rattle.text_base.proofs.ReadingLemmas.{written_lines}
use Rattle.text_base.specs.Cut.{HasNoEnd, IsTextLine, ended_lines}
use Rattle.text_base.specs.Judged.{End}
use Rattle.text_base.specs.Lines.{trimmed}
use Rattle.text_base.specs.Names.{has_name_bytes}
use Rattle.text_base.specs.Reading.{lines_of, last_of}
use Rattle.text_base.specs.WordLines.{WordLine, indented, spaced, lines_text}
use Rattle.written_texts.specs.Words.{IsWord, IsWordLine}

-- spaces and bytes of words
abbrev IsClear : List ℕ → Type 0
IsClear [] = Unit {0}
IsClear (b ∷ bytes) = (32 ≤ b) × IsClear bytes

clear-append : (xs ys : List ℕ) → IsClear xs → IsClear ys → IsClear (xs ++ ys)
clear-append [] ys h k = k
clear-append (x ∷ xs) ys h k = (h.0, clear-append xs ys h.1 k)

clear-word : (word : List ℕ) → has_name_bytes word ≡ true → IsClear word
clear-word [] h = tt
clear-word (b ∷ word) h =
    let two : (nat_le 33 b ≡ true) × (has_name_bytes word ≡ true) = and_parts _ _ h in
    let low : 33 ≤ b = leb-true 33 b two.0 in
    (omega arith, clear-word word two.1)

-- words that may be empty
abbrev AreBytes : WordLine → Type 0
AreBytes words = AllByRecursion (λ word. has_name_bytes word ≡ true) words

clear-spaced : (words : WordLine) → AreBytes words → IsClear (spaced words)
clear-spaced [] all = tt
clear-spaced (word ∷ []) all = clear-word word all.0
clear-spaced (word ∷ next ∷ words) all = clear-append word (32 ∷ spaced (next ∷ words)) (clear-word word all.0) (omega arith, clear-spaced (next ∷ words) all.1)

unlike : (b least : ℕ) → least < b → (b == least) ≡ false
unlike b least lt = grind (arith, nat_tests)

clear-end : (bytes : List ℕ) → IsClear bytes → HasNoEnd bytes
clear-end [] h = tt
clear-end (b ∷ bytes) h = let low : 32 ≤ b = h.0 in (unlike b 10 (omega arith), clear-end bytes h.1)

clear-at : (bytes : List ℕ) (k d : ℕ) → IsClear bytes → k < length bytes → (get_or bytes k d == 13) ≡ false
clear-at [] k d h lt = absurd (omega arith)
clear-at (b ∷ bytes) zero d h lt = let low : 32 ≤ b = h.0 in unlike b 13 (omega arith)
clear-at (b ∷ bytes) (suc k) d h lt = clear-at bytes k d h.1 (omega arith)

trimmed-clear : (bytes : List ℕ) → IsClear bytes → trimmed bytes ≡ bytes
trimmed-clear bytes h =
    let none : suffix_len (λ b. b == 13) bytes ≡ 0 =
    suffix_len_is (λ b. b == 13) bytes (length bytes) 0 (omega arith) (λ k le lt. absurd (omega arith)) (λ some. clear-at bytes (length bytes - 1) 0 h (omega arith)) ∙ omega arith in
    ap (λ k. take (length bytes - k) bytes) none ∙ ap (λ k. take k bytes) (let same : length bytes - 0 ≡ length bytes = omega arith in same) ∙ take_all (length bytes) bytes (omega arith)

-- ---- one line

pub text-line : (words : WordLine) → IsWordLine words → IsTextLine (spaced words)
text-line words one =
    let clear = clear-spaced words one.bytes in
    record { one = record { no_end = clear-end (spaced words) clear; no_cr = trimmed-clear (spaced words) clear }; short = one.short }

pub bytes_of : (words : WordLine) → AllByRecursion IsWord words → AreBytes words
bytes_of [] all = tt
bytes_of (word ∷ words) all = (all.0.bytes, bytes_of words all.1)

pub one-spaced : (words : WordLine) → AllByRecursion IsWord words → length (spaced words) ≤ 65536 → IsWordLine words
one-spaced words all short = record { bytes = bytes_of words all; short = short }

pub one-indented : (words : WordLine) → AllByRecursion IsWord words → length (spaced (indented words)) ≤ 65536 → IsWordLine (indented words)
one-indented words all short = record { bytes = (refl, bytes_of words all); short = short }

-- words of at most k bytes
pub spaced-length : (k : ℕ) (words : WordLine) → AllByRecursion (λ word. length word ≤ k) words → length (spaced words) ≤ (k + 1) * length words
spaced-length k [] all = omega arith
spaced-length k (word ∷ []) all = let most : length word ≤ k = all.0 in omega arith
spaced-length k (word ∷ next ∷ words) all =
    let most : length word ≤ k = all.0 in
    let more : length (spaced (next ∷ words)) ≤ (k + 1) * length (next ∷ words) = spaced-length k (next ∷ words) all.1 in
    omega (arith, length-append word (32 ∷ spaced (next ∷ words)))

-- ---- lines one after the other

pub text-lines : (lines : List WordLine) → AllByRecursion IsWordLine lines → AllByRecursion IsTextLine (map spaced lines)
text-lines [] all = tt
text-lines (words ∷ lines) all = (text-line words all.0, text-lines lines all.1)

ended_lines-spaced : (lines : List WordLine) → ended_lines (map spaced lines) ≡ lines_text lines
ended_lines-spaced lines = flat_map-map (λ line. line ++ 10 ∷ []) spaced lines

pub lines-read : (lines : List WordLine) → AllByRecursion IsWordLine lines → length (lines_text lines) ≤ 2 ^ 31 → (lines_of (lines_text lines) ≡ map spaced lines) × (last_of (lines_text lines) ≡ End)
lines-read lines all room =
    let text = ended_lines-spaced lines in
    let both = written_lines (map spaced lines) (text-lines lines all) (subst (λ (t : List ℕ). length t ≤ 2 ^ 31) (sym text) room) in
    (ap lines_of (sym text) ∙ both.0, ap last_of (sym text) ∙ both.1)
