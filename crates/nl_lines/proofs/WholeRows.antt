-- A row that is a whole number alone.
use Rattle.std.proofs.Common.{◌≡◌, ℕ, ◌+◌, ◌^◌, ◌&&◌, nat_le, nat_lt, arith, true, false, List, length, refl, Some, None}
use Rattle.std.proofs.lemmas.Bool.{eqb-true, ltb-true, not-false}
use Rattle.std.proofs.lemmas.Bool.Decides.{nat_tests}
use Rattle.text_base.specs.Judged.{first_reason}
use Rattle.text_base.specs.Words.{word_at}
use Rattle.text_base.proofs.FirstReasons.{none_each}
use Rattle.exact_numbers.specs.Numbers.{whole_of}
use Rattle.exact_numbers.specs.SpelledLemmas.{first_of_both, second_of_both}
use Rattle.nl_lines.specs.Heads.{is_head}
use Rattle.nl_lines.specs.Tests.{SaysOperandCount, column_tests, operand_tests}
use Rattle.nl_lines.specs.WholeRows.{IsWholeRow}
use Rattle.nl_lines.proofs.PairRows.{digits_plain, whole_digits}

pub whole_plain : (words : List (List ℕ)) (n : ℕ) → IsWholeRow words n → is_head words ≡ false
whole_plain words n w = rw (digits_plain (word_at words 0) (whole_digits (word_at words 0) n w.says)) refl

pub column_fine : (words : List (List ℕ)) (n : ℕ) → IsWholeRow words n → first_reason (column_tests words) ≡ None
unfolding column_tests
column_fine words n w = rw (w.one, whole_digits (word_at words 0) n w.says, w.says) refl

pub column_row : (words : List (List ℕ)) (n : ℕ) → first_reason (column_tests words) ≡ None → whole_of (word_at words 0) ≡ Some n → IsWholeRow words n
unfolding column_tests
column_row words n fine e =
    let none = none_each (column_tests words) fine in
    record { one = eqb-true (length words) 1 (first_of_both _ _ (not-false _ none.0)); says = e }

-- ---- as a number of operands

below_more : (n : ℕ) → nat_le n (2 ^ 22) ≡ true → nat_lt n (2 ^ 22 + 1) ≡ true
below_more n e = grind (arith, nat_tests, e)

pub operand_fine : (words : List (List ℕ)) (n : ℕ) → IsWholeRow words n → (nat_lt 0 n && nat_le n (2 ^ 22)) ≡ true → first_reason (operand_tests words) ≡ None
unfolding operand_tests
operand_fine words n w e =
    let some : nat_lt 0 n ≡ true = first_of_both (nat_lt 0 n) (nat_le n (2 ^ 22)) e in
    let few : nat_lt n (2 ^ 22 + 1) ≡ true = below_more n (second_of_both (nat_lt 0 n) (nat_le n (2 ^ 22)) e) in
    rw (w.one, whole_digits (word_at words 0) n w.says, w.says, some, few) refl

pub operand_says : (words : List (List ℕ)) (n : ℕ) → IsWholeRow words n → (nat_lt 0 n && nat_le n (2 ^ 22)) ≡ true → SaysOperandCount words n
operand_says words n w e = record {
  says = w.says;
  some = ltb-true 0 n (first_of_both (nat_lt 0 n) (nat_le n (2 ^ 22)) e);
  few = (let le : nat_le n (2 ^ 22) ≡ true = second_of_both (nat_lt 0 n) (nat_le n (2 ^ 22)) e in grind (arith, nat_tests, le));
}
