-- A space behind a line changes nothing for the free grammar.
use Rattle.std.proofs.Common.{◌≡◌, ◌∙◌, ℕ, ◌==◌, ◌||◌, cond, List, [], ◌∷◌, ◌++◌, length, take, refl, sym, ap, None}
use Rattle.std.specs.List.{fold}
use Rattle.std.proofs.lemmas.List.Sums.{fold-append}
use Rattle.text_base.specs.Judged.{first_reason}
use Rattle.text_base.specs.Words.{is_blank, ends_word, onto_word, words_of}
use Rattle.mps_reader.specs.Grammar.{standing, standing_of, line_tests, line_reason}
use Rattle.mps_words.specs.Sections.{Section, sections_of, with_line, with_words}
use Rattle.mps_reader.specs.Tests.{Standing}

ends-blank : (bytes : List ℕ) → ends_word (bytes ++ 32 ∷ []) ≡ ends_word bytes
ends-blank [] = refl
ends-blank (b ∷ bytes) = refl

words-blank : (bytes : List ℕ) → words_of (bytes ++ 32 ∷ []) ≡ words_of bytes
words-blank [] = refl
words-blank (b ∷ bytes) =
    ap (λ (words : List (List ℕ)). cond (is_blank b) words (onto_word b (ends_word (bytes ++ 32 ∷ [])) words)) (words-blank bytes)
    ∙ ap (λ ends. cond (is_blank b) (words_of bytes) (onto_word b ends (words_of bytes))) (ends-blank bytes)

pub judged-blank : (s : Standing) (bytes : List ℕ) → line_reason s (bytes ++ 32 ∷ []) ≡ line_reason s bytes
unfolding line_reason
judged-blank s [] = refl
judged-blank s (b ∷ bytes) =
    ap (λ (words : List (List ℕ)). cond ((b == 42) || (length words == 0)) None (first_reason (line_tests s (is_blank b) (take 12 words)))) (words-blank (b ∷ bytes))

sections-blank : (sections : List Section) (bytes : List ℕ) → with_line sections (bytes ++ 32 ∷ []) ≡ with_line sections bytes
sections-blank sections [] = refl
sections-blank sections (b ∷ bytes) =
    ap (λ (words : List (List ℕ)). cond ((b == 42) || (length words == 0)) sections (with_words sections (is_blank b) (take 12 words))) (words-blank (b ∷ bytes))

pub standing-blank : (lines : List (List ℕ)) (bytes : List ℕ) → standing (lines ++ (bytes ++ 32 ∷ []) ∷ []) ≡ standing (lines ++ bytes ∷ [])
unfolding sections_of
standing-blank lines bytes =
    ap standing_of
    (fold-append with_line [] lines ((bytes ++ 32 ∷ []) ∷ [])
    ∙ sections-blank (fold with_line [] lines) bytes
    ∙ sym (fold-append with_line [] lines (bytes ∷ [])))
