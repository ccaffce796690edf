-- Written words are read as themselves.
use Rattle.std.proofs.Common.{◌≡◌, ◌∙◌, ℕ, ◌≤◌, ◌==◌, true, false, not, ◌<◌, List, [], ◌∷◌, ◌++◌, length, refl, sym, ap, ap₂, arith, nat_le}
use Rattle.std.proofs.lemmas.Bool.{and_parts}
use Rattle.std.proofs.lemmas.Bool.Decides.{nat_tests}
use Rattle.std.proofs.lemmas.List.{take_all, append-nil}
use Rattle.std.specs.List.{AllByRecursion}
use Rattle.text_base.specs.Names.{has_name_bytes}
use Rattle.text_base.specs.Words.{is_blank, onto_word, ends_word, words_of, row_of, up_to_comment, without_comment}
use Rattle.text_base.specs.WordLines.{WordLine, indented, spaced}
use Rattle.text_base.proofs.WordLemmas.{begins}
use Rattle.written_texts.specs.Words.{IsWord, IsKeptWord, IsWritten}

-- ---- bytes of words

-- a byte of a name is no blank, no LF and no CR
pub not_blank : (b : ℕ) → nat_le 33 b ≡ true → is_blank b ≡ false
not_blank b h = grind (arith, nat_tests)

-- the first byte, and those after it
bytes-cons : (b : ℕ) (word : List ℕ) → has_name_bytes (b ∷ word) ≡ true → (nat_le 33 b ≡ true) × (has_name_bytes word ≡ true)
bytes-cons b word h = and_parts _ _ h

-- ---- words

-- what follows a word: nothing, or a blank
abbrev EndsWord : List ℕ → Type 0
EndsWord rest = ends_word rest ≡ true

words-word : (b : ℕ) (word rest : List ℕ) → has_name_bytes (b ∷ word) ≡ true → EndsWord rest → words_of ((b ∷ word) ++ rest) ≡ (b ∷ word) ∷ words_of rest
words-word b [] rest h ends =
    let two = bytes-cons b [] h in
    rw (not_blank b two.0, ends) (begins b (words_of rest))
words-word b (c ∷ word) rest h ends =
    let two = bytes-cons b (c ∷ word) h in
    let after = bytes-cons c word two.1 in
    let next = not_blank c after.0 in
    let more : words_of ((c ∷ word) ++ rest) ≡ (c ∷ word) ∷ words_of rest = words-word c word rest two.1 ends in
    rw (not_blank b two.0) (ap₂ (λ e ws. onto_word b e ws) next more)

word_read : (word rest : List ℕ) → IsWord word → EndsWord rest → words_of (word ++ rest) ≡ word ∷ words_of rest
word_read [] rest w ends = absurd (let n : 0 < 0 = w.some in omega arith)
word_read (b ∷ word) rest w ends = words-word b word rest w.bytes ends

pub words-spaced : (words : WordLine) → AllByRecursion IsWord words → words_of (spaced words) ≡ words
words-spaced [] all = refl
words-spaced (word ∷ []) all = ap words_of (sym (append-nil word)) ∙ word_read word [] all.0 refl
words-spaced (word ∷ next ∷ words) all = word_read word (32 ∷ spaced (next ∷ words)) all.0 refl ∙ ap (λ ws. word ∷ ws) (words-spaced (next ∷ words) all.1)

-- ---- comments

no_comment : (word rest : List ℕ) → has_name_bytes word ≡ true → up_to_comment false (word ++ rest) ≡ word ++ up_to_comment false rest
no_comment [] rest h = refl
no_comment (b ∷ word) rest h =
    let two = bytes-cons b word h in
    rw (not_blank b two.0) (ap (λ bs. b ∷ bs) (no_comment word rest two.1))

word_kept : (word rest : List ℕ) → IsKeptWord word → up_to_comment true (word ++ rest) ≡ word ++ up_to_comment false rest
word_kept [] rest w = absurd (let n : 0 < 0 = w.is.some in omega arith)
word_kept (b ∷ word) rest w =
    let two = bytes-cons b word w.is.bytes in
    rw (w.front, not_blank b two.0) (ap (λ bs. b ∷ bs) (no_comment word rest two.1))

pub kept-spaced : (words : WordLine) → AllByRecursion IsKeptWord words → without_comment (spaced words) ≡ spaced words
kept-spaced [] all = refl
kept-spaced (word ∷ []) all = ap without_comment (sym (append-nil word)) ∙ word_kept word [] all.0 ∙ append-nil word
kept-spaced (word ∷ next ∷ words) all = word_kept word (32 ∷ spaced (next ∷ words)) all.0 ∙ ap (λ bs. word ++ 32 ∷ bs) (kept-spaced (next ∷ words) all.1)

-- ---- lines that begin with a space, rows, and lines without a comment

pub words-indented : (words : WordLine) → AllByRecursion IsWord words → words_of (spaced (indented words)) ≡ words
words-indented [] all = refl
words-indented (word ∷ words) all = words-spaced (word ∷ words) all

pub row-spaced : (words : WordLine) → length words ≤ 12 → AllByRecursion IsWord words → row_of (spaced words) ≡ words
row-spaced words few all = rw (words-spaced words all) (take_all 12 words few)

pub row-indented : (words : WordLine) → length words ≤ 12 → AllByRecursion IsWord words → row_of (spaced (indented words)) ≡ words
row-indented words few all = rw (words-indented words all) (take_all 12 words few)

pub are_words : (words : WordLine) → AllByRecursion IsKeptWord words → AllByRecursion IsWord words
are_words [] all = tt
are_words (word ∷ words) all = (all.0.is, are_words words all.1)

pub row-written : (words : WordLine) → IsWritten words → row_of (spaced words) ≡ words
row-written words w = row-spaced words w.few (are_words words w.each)

-- the line holds a word, as a reader of rows asks
pub some-written : (words : WordLine) → IsWritten words → not (length (words_of (without_comment (spaced words))) == 0) ≡ true
some-written words w = rw (kept-spaced words w.each, words-spaced words (are_words words w.each)) (some words w.some)
  where
    some : (words : WordLine) → 0 < length words → not (length words == 0) ≡ true
    some words lt = let no : (length words == 0) ≡ false = grind (arith, nat_tests) in ap not no
