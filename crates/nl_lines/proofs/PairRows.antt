-- A row that is an index and a value alone is judged by its pair.
use Rattle.std.proofs.Common.{◌≡◌, ◌∙◌, ℕ, ◌+◌, ◌-◌, ◌<◌, ◌≤◌, take, drop, Bool, true, false, List, [], ◌∷◌, ◌++◌}
use Rattle.std.proofs.Common.{length, refl, sym, ap, ap₂, subst, arith, append_assoc, length-append, length-take}
use Rattle.std.proofs.Common.{take-append-drop, Option, Some, None, get_or}
use Rattle.std.specs.Prelude.{unwrap_or, slice_index}
use Rattle.std.specs.Char.{digit_value}
use Rattle.std.proofs.lemmas.List.{drop_more}
use Rattle.std.proofs.lemmas.Bool.{ltb-true}
use Rattle.std.proofs.lemmas.Bool.Decides.{nat_tests}
use Rattle.text_base.specs.Judged.{first_reason}
use Rattle.text_base.specs.Words.{IsUnmarked, words_of, without_comment, word_at}
use Rattle.text_base.proofs.FrontLemmas.{front_one}
use Rattle.text_base.proofs.PairLemmas.{one_line-pair, without_comment-pair, words_of-pair}
use Rattle.exact_numbers.specs.declared.dec.Dec.{Dec}
use Rattle.exact_numbers.specs.Numbers.{are_any_digits, are_digits, dec_of, whole_of}
use Rattle.exact_numbers.specs.SpelledLemmas.{first_of_both, second_of_both}
use Rattle.exact_numbers.proofs.Texts.{digit_byte}
use Rattle.nl_model.specs.declared.header_counts.Counts.{Counts}
use Rattle.nl_model.specs.File.{Term}
use Rattle.nl_lines.specs.declared.head.Head.{Head}
use Rattle.nl_lines.specs.Heads.{is_ascii_letter, is_head}
use Rattle.nl_lines.specs.Pieces.{pair_in}
use Rattle.nl_lines.specs.Tests.{pair_form_tests}
use Rattle.nl_lines.specs.FirstPairs.{IsFirstPair}
use Rattle.nl_lines.specs.PairTests.{IsPairRow, known_pair_tests, next_pair_tests}
use Rattle.nl_lines.proofs.PairJudging.{index_of}

-- ---- the words of such a row

value_of : (words : List (List ℕ)) (t : Term) → pair_in words ≡ Some t → dec_of (word_at words 1) ≡ Some t.1
unfolding pair_in
value_of words t e = by (whole_of (word_at words 0)) (dec_of (word_at words 1)) refl refl
  where
    by : (i : Option ℕ) (d : Option Dec) → whole_of (word_at words 0) ≡ i → dec_of (word_at words 1) ≡ d → dec_of (word_at words 1) ≡ Some t.1
    by None d p q = absurd (let none : None ≡ Some t = rw p at e in cc)
    by (Some i) None p q = absurd (let none : None ≡ Some t = rw (p, q) at e in cc)
    by (Some i) (Some d) p q = let same : Some (i, d) ≡ Some t = rw (p, q) at e in q ∙ ap (λ (o : Option Term). Some (unwrap_or {T = Term} o (i, d)).1) same

pub whole_digits : (word : List ℕ) (i : ℕ) → whole_of word ≡ Some i → are_digits word ≡ true
unfolding whole_of
whole_digits word i e = by (are_digits word) refl
  where
    by : (t : Bool) → are_digits word ≡ t → are_digits word ≡ true
    by true h = h
    by false h = absurd (let none : None ≡ Some i = rw h at e in cc)

pub no_letter : (b : ℕ) → 48 ≤ b → b ≤ 57 → is_ascii_letter b ≡ false
no_letter b low high = grind (arith, nat_tests)

pub digits_plain : (word : List ℕ) → are_digits word ≡ true → is_ascii_letter (slice_index word 0) ≡ false
digits_plain [] e = absurd cc
digits_plain (b ∷ word) e =
    let all : are_any_digits (b ∷ word) ≡ true = second_of_both _ _ e in
    let byte = digit_byte b (ltb-true (digit_value b) 10 (first_of_both _ _ all)) in
    no_letter b byte.0 byte.1

index_digits : (words : List (List ℕ)) (t : Term) → IsPairRow words t → are_digits (word_at words 0) ≡ true
index_digits words t p = whole_digits (word_at words 0) t.0 (index_of words t p.says)

pub pair_plain : (words : List (List ℕ)) (t : Term) → IsPairRow words t → is_head words ≡ false
pair_plain words t p = rw (digits_plain (word_at words 0) (index_digits words t p)) refl

-- ---- judging

pub same_known : (c : Counts) (head : Head) (marks : List Bool) (full : Bool) (words : List (List ℕ)) (t : Term) → IsPairRow words t
    → first_reason (next_pair_tests c head marks full words) ≡ first_reason (known_pair_tests c head marks full t)
unfolding pair_form_tests
same_known c head marks full words t p = rw (p.two, index_digits words t p, index_of words t p.says, value_of words t p.says) refl

-- ---- a line of the common form

two_words : (index word : List ℕ) (i : ℕ) (d : Dec) → whole_of index ≡ Some i → dec_of word ≡ Some d → IsPairRow (index ∷ word ∷ []) (i, d)
unfolding pair_in
two_words index word i d whole dec = record { two = refl; says = rw (whole, dec) refl }

-- ---- such a line at the front of a text

pub first_row : (text rest : List ℕ) (n m i : ℕ) (d : Dec) → n < length text → get_or text n 0 ≡ 32 → rest ≡ drop (n + 1) text → m < length rest → get_or rest m 0 ≡ 10 → n ≤ 40 → m ≤ 40
    → 0 < n → whole_of (take n text) ≡ Some i → IsUnmarked (take n text) → dec_of (take m rest) ≡ Some d → 0 < m → IsUnmarked (take m rest)
    → IsFirstPair text (record { index = i; value = d; len = (n + m) + 2 })
first_row text rest n m i d within space behind ends lf few few_more some whole index dec more_some word_unmarked =
    let word = take m rest in
    let front = take n text in
    let line = front ++ 32 ∷ word in
    let more = drop (m + 1) rest in
    let size : length front ≡ n = omega (arith, within, length-take n text) in
    let word_size : length word ≡ m = omega (arith, ends, length-take m rest) in
    let word_some : 0 < length word = omega (arith, word_size, more_some) in
    let line_size : length line ≡ (n + m) + 1 = omega (arith, size, word_size, length-append front (32 ∷ word)) in
    let last : rest ≡ word ++ 10 ∷ more = sym (take-append-drop m rest) ∙ ap (λ xs. word ++ xs) (drop_more rest m 0 ends ∙ ap (λ b. b ∷ more) lf) in
    let first : text ≡ front ++ 32 ∷ rest = sym (take-append-drop n text) ∙ ap (λ bs. front ++ bs) (drop_more text n 0 within ∙ ap₂ (λ b bs. b ∷ bs) space (sym behind)) in
    let parts : text ≡ (line ++ 10 ∷ []) ++ more =
    first ∙ ap (λ bs. front ++ 32 ∷ bs) last ∙ sym (append_assoc front (32 ∷ word) (10 ∷ more)) ∙ sym (append_assoc line (10 ∷ []) more) in
    let words : words_of (without_comment line) ≡ front ∷ word ∷ [] =
    ap words_of (without_comment-pair front word index word_unmarked) ∙ words_of-pair front word (omega (arith, size, some)) index word_some word_unmarked in
    record {
      line = line;
      first = front_one text line more ((n + m) + 2) parts (omega (arith, line_size))
          (record {
            one = one_line-pair front word index word_some word_unmarked;
            short =
                omega (arith, line_size, few, few_more);
          });
      pair = subst (λ ws. IsPairRow ws (i, d)) (sym (ap (take 12) words)) (two_words front word i d whole dec);
    }
