-- Words at the front of a text.
use Rattle.std.proofs.Common.{◌≡◌, ◌∙◌, ℕ, ◌+◌, ◌<◌, ◌≤◌, true, List, [], ◌∷◌, ◌++◌, length, take, drop, get_or, Some, refl, sym, ap, arith, length-take, take-append-drop, take-take, nat_le}
use Rattle.std.proofs.lemmas.List.{drop_more, drop-take}
use Rattle.std.proofs.lemmas.List.Folds.{list_all-append}
use Rattle.std.proofs.lemmas.Bool.{le-leb}
use Rattle.text_base.specs.Names.{has_name_bytes}
use Rattle.text_base.specs.Words.{IsUnmarked}
use Rattle.exact_numbers.specs.Numbers.{dec_of}
use Rattle.exact_numbers.specs.declared.dec.Dec.{Dec}
use Rattle.mps_words.specs.InsideFronts.{IsNumberText}

pub first_parts : (text : List ℕ) (n byte : ℕ) → n < length text → get_or text n 0 ≡ byte → text ≡ take n text ++ byte ∷ drop (n + 1) text
first_parts text n byte within is = sym (take-append-drop n text) ∙ ap (λ bs. take n text ++ bs) (drop_more text n 0 within ∙ ap (λ b. b ∷ drop (n + 1) text) is)

pub more_bytes : (bytes : List ℕ) (m n : ℕ) → has_name_bytes (take m bytes) ≡ true → has_name_bytes (take n (drop m bytes)) ≡ true → has_name_bytes (take (m + n) bytes) ≡ true
more_bytes bytes m n front behind =
    let parts : take (m + n) bytes ≡ take m bytes ++ take n (drop m bytes) = grind (arith, take-append-drop m (take (m + n) bytes), drop-take m n bytes, take-take m (m + n) bytes) in
    rw (parts, list_all-append (λ b. nat_le 33 b) (take m bytes) (take n (drop m bytes)), front) behind

unmarked_bytes : (word : List ℕ) → IsUnmarked word → has_name_bytes word ≡ true
unmarked_bytes [] all = refl
unmarked_bytes (b ∷ word) all = let high : 35 < b = all.0 in rw (le-leb 33 b (omega (arith, high))) (unmarked_bytes word all.1)

pub number_text : (text : List ℕ) (n : ℕ) (d : Dec) → n < length text → get_or text n 0 ≡ 10 → 0 < n → n ≤ 40
    → dec_of (take n text) ≡ Some d → IsUnmarked (take n text) → IsNumberText text d (drop (n + 1) text)
number_text text n d within ends some few says unmarked =
    let taken : length (take n text) ≡ n = omega (arith, within, length-take n text) in
    record {
      word = take n text;
      parts = first_parts text n 10 within ends;
      is_word = record { some = omega (arith, taken, some); most = omega (arith, taken, few); each = unmarked_bytes (take n text) unmarked };
      says = says;
    }
