-- The plain number that a word is.
use Rattle.std.proofs.Common.{[], ◌≡◌, ◌∙◌, ℕ, ◌^◌, Bool, true, false, ◌&&◌, not, nat_lt, nat_eq, List, ◌∷◌, length, get_or, Some, None, Ok, Err, refl, sym, ap, subst}
use Rattle.std.proofs.lemmas.Bool.{and_from, and_left, and_parts, and_right, cond-false, cond-true, eqb-false, eqb-true, false_from_ne_true, lt-ltb, ltb-true, not_from_false, not_from_true}
use Rattle.std.proofs.lemmas.Str.Parse.{IsNumeralModel, numerals_by_value, tells_all_ascii_digits, parse_plain}
use Rattle.std.specs.Str.{all_ascii_digits}
use Rattle.std.specs.Str.Parse.{digits_value, ParsesUnsigned}
use Rattle.bridge_tool.specs.Command.{has_front_zero, is_plain, plain_number}

own : IsNumeralModel (λ ds. all_ascii_digits ds ≡ true) (digits_value 10)
own = numerals_by_value (λ ds. all_ascii_digits ds ≡ true) tells_all_ascii_digits

abbrev fits : List ℕ → Bool
fits word = nat_lt (digits_value 10 word) (2 ^ 32)

abbrev has_digits : List ℕ → Bool
has_digits word = nat_lt 0 (length word) && all_ascii_digits word

not_plain : (word : List ℕ) → (is_plain word && fits word) ≡ false → None ≡ plain_number word
unfolding plain_number
not_plain word e = sym (cond-false (is_plain word && fits word) (Some (digits_value 10 word)) None e)

no_digits : (word : List ℕ) → nat_eq (get_or word 0 0) 43 ≡ true → all_ascii_digits word ≡ false
no_digits [] e = absurd cc
no_digits (b ∷ bs) e = let is : b ≡ 43 = eqb-true b 43 e in subst (λ (c : ℕ). all_ascii_digits (c ∷ bs) ≡ false) (sym is) refl

pub plus_is_none : (word : List ℕ) → nat_eq (get_or word 0 0) 43 ≡ true → None ≡ plain_number word
plus_is_none word e = not_plain word (and_left (is_plain word) (fits word)
    (and_left (has_digits word) (not (has_front_zero word))
    (and_right (nat_lt 0 (length word)) (all_ascii_digits word) (no_digits word e))))

pub zero_is_none : (word : List ℕ) → has_front_zero word ≡ true → None ≡ plain_number word
zero_is_none word e = not_plain word (and_left (is_plain word) (fits word) (and_right (has_digits word) (not (has_front_zero word)) (not_from_true (has_front_zero word) e)))

pub parsed_is_number : (word : List ℕ) (n : ℕ) → nat_eq (get_or word 0 0) 43 ≡ false → has_front_zero word ≡ false → ParsesUnsigned {E = ℕ} 32 10 word (Ok n) → Some n ≡ plain_number word
unfolding plain_number
parsed_is_number word n plus zero h =
    let is = parse_plain own {E = ℕ} 32 word (Ok n) h (eqb-false (get_or word 0 0) 43 plus) in
    let digits = and_from (nat_lt 0 (length word)) (all_ascii_digits word) (lt-ltb 0 (length word) is.0.1) is.0.0 in
    let plain = and_from (has_digits word) (not (has_front_zero word)) digits (not_from_false (has_front_zero word) zero) in
    ap Some is.1 ∙ sym (cond-true (is_plain word && fits word) (Some (digits_value 10 word)) None (and_from (is_plain word) (fits word) plain (lt-ltb (digits_value 10 word) (2 ^ 32) is.0.2)))

pub unparsed_is_none : (E : Type 0) (word : List ℕ) (e : E) → nat_eq (get_or word 0 0) 43 ≡ false → ParsesUnsigned {E = E} 32 10 word (Err e) → None ≡ plain_number word
unparsed_is_none E word e plus h =
    let isnt = parse_plain own {E = E} 32 word (Err e) h (eqb-false (get_or word 0 0) 43 plus) in
    not_plain word (false_from_ne_true (is_plain word && fits word) (λ all.
    let at = and_parts (is_plain word) (fits word) all in
    let digits = and_parts (nat_lt 0 (length word)) (all_ascii_digits word) (and_parts (has_digits word) (not (has_front_zero word)) at.0).0 in
    isnt (digits.1, ltb-true 0 (length word) digits.0, ltb-true (digits_value 10 word) (2 ^ 32) at.1)))
