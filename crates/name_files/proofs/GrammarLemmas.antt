-- A line, as the grammar takes it.
use Rattle.std.proofs.Common.{◌≡◌, ◌∙◌, ℕ, zero, suc, ◌+◌, ◌==◌, true, false, List, [], ◌∷◌, ◌++◌, length, take, Bor, refl, sym, ap, OnOk, IfErr, Some, None, arith, length-append}
use Rattle.std.specs.Prelude.{Result, Ok, Err, nat_lt, if◌then◌else◌}
use Rattle.std.proofs.lemmas.Bool.{eqb-true}
use Rattle.std.proofs.lemmas.Bool.Decides.{nat_tests}
use Rattle.std.proofs.lemmas.List.{append-nil, length-map, take_all}
use Rattle.std.proofs.lemmas.Grind.{flat_map-append}
use Rattle.text_base.specs.Judged.{first_reason, Takes}
use Rattle.text_base.specs.Stopped.{IfFault}
use Rattle.text_base.specs.Words.{words_of, row_of, texts, word_at}
use Rattle.text_base.specs.declared.stop.Stop.{Stop}
use Rattle.text_base.specs.declared.stop.Stop.TheVariants.{Fault, Memory}
use Rattle.name_files.specs.declared.fault.NameReason.{NameReason}
use Rattle.name_files.specs.Names.{Counts, Standing, standing, names_of, name_tests, line_reason, with_name}

row_begins : (words : List (List ℕ)) → (length (take 12 words) == 0) ≡ (length words == 0)
row_begins [] = refl
row_begins (word ∷ words) = grind arith

row_is_one : (words : List (List ℕ)) → (length (take 12 words) == 1) ≡ (length words == 1)
row_is_one [] = refl
row_is_one (word ∷ []) = refl
row_is_one (word ∷ next ∷ words) = grind arith

first_of_row : (words : List (List ℕ)) → word_at (take 12 words) 0 ≡ word_at words 0
first_of_row [] = refl
first_of_row (word ∷ words) = refl

-- the tests of a row are those of all words
tests_of_row : (c : Counts) (s : Standing) (words : List (List ℕ)) → first_reason (name_tests c s (take 12 words)) ≡ first_reason (name_tests c s words)
unfolding name_tests
tests_of_row c s words = rw (row_is_one words, first_of_row words) refl

pub no_words : (line : List ℕ) (words : List (Bor (List ℕ))) → texts words ≡ row_of line → (length words == 0) ≡ (length (words_of line) == 0)
no_words line words e = ap (λ (n : ℕ). n == 0) (sym (length-map words (λ x. x.now)) ∙ ap (length {A = List ℕ}) e) ∙ row_begins (words_of line)

-- ---- one name more

take_more : (n : ℕ) (xs : List (List ℕ)) (x : List ℕ) → take n (xs ++ x ∷ []) ≡ (if nat_lt (length (take n xs)) n then take n xs ++ x ∷ [] else take n xs)
take_more zero [] x = refl
take_more zero (y ∷ xs) x = refl
take_more (suc n) [] x = rw (take_all {A = List ℕ} n [] (omega arith)) (grind (arith, nat_tests))
take_more (suc n) (y ∷ xs) x = grind (arith, nat_tests, take_more n xs x)

names_more : (lines : List (List ℕ)) (line : List ℕ) → names_of (lines ++ line ∷ []) ≡ names_of lines ++ (take 1 (words_of line) ++ [])
unfolding names_of
names_more lines line = flat_map-append (λ l. take 1 (words_of l)) lines (line ∷ [])

one_word : (words : List (List ℕ)) → (length words == 0) ≡ false → take 1 words ++ [] ≡ word_at words 0 ∷ []
one_word [] e = absurd cc
one_word (word ∷ words) e = refl

pub standing-more : (c : Counts) (lines : List (List ℕ)) (line : List ℕ) → (length (words_of line) == 0) ≡ false
    → standing c (lines ++ line ∷ []) ≡ with_name c (standing c lines) (word_at (words_of line) 0)
standing-more c lines line e = rw (
  names_more lines line,
  one_word (words_of line) e,
  length-append (names_of lines) (word_at (words_of line) 0 ∷ []),
  take_more c.used (names_of lines) (word_at (words_of line) 0),
) refl

none_taken : (words : List (List ℕ)) → (length words == 0) ≡ true → take 1 words ++ [] ≡ []
none_taken [] e = refl
none_taken (word ∷ words) e = absurd (omega (arith, eqb-true (length (word ∷ words)) 0 e))

pub standing-same : (c : Counts) (lines : List (List ℕ)) (line : List ℕ) → (length (words_of line) == 0) ≡ true → standing c (lines ++ line ∷ []) ≡ standing c lines
standing-same c lines line e = rw (names_more lines line, none_taken (words_of line) e, append-nil (names_of lines)) refl

pub left_out : (c : Counts) (s : Standing) (line : List ℕ) → (length (words_of line) == 0) ≡ true → line_reason c s (words_of line) ≡ None
unfolding line_reason
left_out c s line e = rw e refl

judged : (c : Counts) (s : Standing) (line : List ℕ) (row : List (List ℕ)) → (length (words_of line) == 0) ≡ false
    → row ≡ row_of line → line_reason c s (words_of line) ≡ first_reason (name_tests c s row)
unfolding line_reason
judged c s line row e is = rw e (sym (ap (λ ws. first_reason (name_tests c s ws)) is ∙ tests_of_row c s (words_of line)))

-- what taking a line that has words says
pub line_done : (c d : Counts) (old new : Standing) (line : List ℕ) (row : List (List ℕ)) (n : ℕ)
    (r : Result (Unit {0}) (Stop NameReason)) → (length (words_of line) == 0) ≡ false → row ≡ row_of line → d ≡ c
    → Takes (name_tests c old row) (with_name c old (word_at row 0)) r new
    → OnOk r ((lines : List (List ℕ)) → n ≡ length lines + 1 → old ≡ standing c lines → new ≡ standing d (lines ++ line ∷ []))
    × OnOk r ((lines : List (List ℕ)) → n ≡ length lines + 1 → old ≡ standing c lines → line_reason c (standing c lines) (words_of line) ≡ None)
    × IfErr r (λ stop. IfFault stop (λ reason. (lines : List (List ℕ)) → n ≡ length lines + 1 → old ≡ standing c lines → line_reason c (standing c lines) (words_of line) ≡ Some reason))
line_done c d old new line row n (Ok u) some is same t = (
  λ lines e h. t.1 ∙ ap (λ s. with_name c s (word_at row 0)) h ∙ ap (λ w. with_name c (standing c lines) w) (ap (λ ws. word_at ws 0) is ∙ first_of_row (words_of line))
      ∙ sym (standing-more c lines line some) ∙ ap (λ k. standing k (lines ++ line ∷ [])) (sym same),
  λ lines e h. ap (λ s. line_reason c s (words_of line)) (sym h) ∙ judged c old line row some is ∙ t.0,
  tt,
)
line_done c d old new line row n (Err (Fault f)) some is same t = (tt, tt, λ lines e h. ap (λ s. line_reason c s (words_of line)) (sym h) ∙ judged c old line row some is ∙ t)
line_done c d old new line row n (Err Memory) some is same t = (tt, tt, tt)
