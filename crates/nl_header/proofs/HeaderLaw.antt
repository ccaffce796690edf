-- Ten lines without a fault say a header: they keep its rules.
use Rattle.std.proofs.Common.{◌≡◌, ◌∙◌, ℕ, zero, suc, ne_eqb, ◌+◌, ◌-◌, ◌<◌, ◌≤◌, ◌^◌, ◌==◌, ◌&&◌, Bool, true, false}
use Rattle.std.proofs.Common.{not, cond, List, [], ◌∷◌, ◌++◌, length, get_or, map, take, drop, Option, Some, None, refl}
use Rattle.std.proofs.Common.{sym, ap, subst, arith, unwrap_or, ℤ}
use Rattle.std.specs.Prelude.{nat_lt, nat_le, is_none, max}
use Rattle.std.specs.List.{list_all}
use Rattle.std.specs.Option.{option_or}
use Rattle.std.proofs.lemmas.List.{get_or-take, get_or_append_left, take-append-le, take_more, length-append, length-take}
use Rattle.std.proofs.lemmas.Bool.{eqb-true, lt-ltb, ltb-true, ltb-false, le-ltb, le-leb, leb-true, not-false}
use Rattle.std.proofs.lemmas.Option.{none-some}
use Rattle.text_base.specs.Judged.{first_reason}
use Rattle.text_base.specs.Words.{word_at}
use Rattle.text_base.proofs.FirstReasons.{none_head}
use Rattle.code_tables.specs.declared.field.Field.{Field}
use Rattle.code_tables.specs.declared.field.FieldRow.{FieldRow}
use Rattle.code_tables.specs.Header.{header_rows, field_at}
use Rattle.nl_model.specs.declared.header_counts.Counts.{Counts}
use Rattle.nl_model.specs.HeaderRules.{are_options, are_numbers, has_no_refused, are_sizes_within, are_shared_within, are_whole_within, are_definitions_within, is_header}
use Rattle.nl_model.specs.Options.{has_second_three}
use Rattle.nl_header.specs.declared.fault.HeadFault.{HeadFault}
use Rattle.nl_header.specs.declared.fault.HeadFault.TheVariants.{BadHeaderNumber, BinaryFile, BadFirstLine, Options, RefusedCount, TooLarge, CountsDisagree}
use Rattle.exact_numbers.specs.Numbers.{whole_of, are_digits}
use Rattle.std.specs.Str.Parse.{digits_value}
use Rattle.nl_header.specs.Head.{number_in, header_number, header_line, words_fault, word_tests, field_tests, limit_of}
use Rattle.nl_header.specs.Head.{limit_of_row, begins_with, lacks_number, rule_tests, number_line_fault}
use Rattle.nl_header.specs.Head.{header_line_fault, first_line_tests, options_in, options_of, counts_in, counts_by}
use Rattle.nl_header.specs.Head.{has_options, option_count}
use Rattle.nl_header.specs.Reading.{AreClean, last_rule}
use Rattle.exact_numbers.proofs.NumberLemmas.{both, first_of_both, second_of_both}

abbrev Lines : Type 0
Lines = List (List (List ℕ))

-- ---- What no fault says.

else-first : (a b : Option HeadFault) → option_or a b ≡ None → a ≡ None
else-first None b e = refl
else-first (Some f) b e = e

pub else-second : (a b : Option HeadFault) → option_or a b ≡ None → b ≡ None
else-second None b e = e
else-second (Some f) b e = absurd (none-some f (sym e))

-- ---- Numbers.

nothing_below : (n : ℕ) → nat_lt n 0 ≡ false
nothing_below n = le-ltb n 0 (omega arith)

zero-number : (field : Option Field) → first_reason (field_tests field 0) ≡ None
unfolding field_tests
zero-number None = refl
zero-number (Some f) = by f.zero
  where
    by : (z : Bool) → cond (z && not (0 == 0)) (Some RefusedCount) (cond (nat_lt (limit_of (Some f)) 0) (Some TooLarge) None) ≡ None
    by true = ap (λ t. cond t (Some TooLarge) None) (nothing_below (limit_of (Some f)))
    by false = ap (λ t. cond t (Some TooLarge) None) (nothing_below (limit_of (Some f)))

word-number : (field : Option Field) (word : List ℕ) → first_reason (word_tests field word) ≡ None → first_reason (field_tests field (unwrap_or (whole_of word) 0)) ≡ None
unfolding word_tests
word-number field word clean = (none_head (is_none (whole_of word)) BadHeaderNumber (field_tests field (unwrap_or (whole_of word) 0)) clean).1

whole_of-nil : whole_of [] ≡ None
unfolding whole_of
whole_of-nil = refl

-- each number of a line without a fault keeps the rules of its field; `shift` is the place of the first word less 1
numbers-from : (line start i : ℕ) (ws : List (List ℕ)) → words_fault line start ws ≡ None → first_reason (field_tests (field_at line (start + i)) (unwrap_or (whole_of (get_or ws i [])) 0)) ≡ None
unfolding words_fault
numbers-from line start i [] clean = ap (λ o. first_reason (field_tests (field_at line (start + i)) (unwrap_or o 0))) whole_of-nil ∙ zero-number (field_at line (start + i))
numbers-from line start zero (w ∷ ws) clean =
    let same : start + 0 ≡ start = omega arith in
    ap (λ p. first_reason (field_tests (field_at line p) (unwrap_or (whole_of w) 0))) same ∙ word-number (field_at line start) w (else-first _ _ clean)
numbers-from line start (suc i) (w ∷ ws) clean =
    let same : start + suc i ≡ start + 1 + i = omega arith in
    ap (λ p. first_reason (field_tests (field_at line p) (unwrap_or (whole_of (get_or ws i [])) 0))) same ∙ numbers-from line (start + 1) i ws (else-second _ _ clean)

number-clean : (line place : ℕ) (ws : List (List ℕ)) → 0 < place → words_fault line 1 ws ≡ None → first_reason (field_tests (field_at line place) (number_in ws place)) ≡ None
number-clean line place ws some clean =
    let same : place ≡ 1 + (place - 1) = omega (arith, some) in
    ap (λ p. first_reason (field_tests (field_at line p) (number_in ws place))) same ∙ numbers-from line 1 (place - 1) ws clean

-- ---- Lines of which the first nine have no fault.

pub record AreNineClean (lines : List (List (List ℕ))) : Type 0 where
  pub many : 9 ≤ length lines
  pub clean : (i : ℕ) → i < 9 → header_line_fault (take i lines) (get_or lines i []) ≡ None

pub nine_clean : (before : List (List (List ℕ))) (ws : List (List ℕ)) → length before ≡ 9 → AreClean before → AreNineClean (before ++ ws ∷ [])
nine_clean before ws nine clean = record {
  many = omega (arith, length-append before (ws ∷ []), nine);
  clean = λ i lt.
      let below : i < length before = omega (arith, lt, nine) in
      ap (λ b. header_line_fault b (get_or (before ++ ws ∷ []) i [])) (take-append-le i before (ws ∷ []) (omega (arith, below)))
      ∙ ap (header_line_fault (take i before)) (get_or_append_left before (ws ∷ []) [] i below) ∙ clean.clean i below;
}

line-of : (lines : Lines) (n : ℕ) → 0 < n → n < 9 → AreNineClean lines → number_line_fault (n + 1) (counts_in (take (n + 1) lines)) (header_line lines (n + 1)) ≡ None
unfolding header_line_fault
line-of lines n some lt clean =
    let within : n < length lines = omega (arith, lt, clean.many) in
    let size : length (take n lines) ≡ n = omega (arith, length-take n lines, within) in
    let same : n + 1 - 1 ≡ n = omega arith in
    let now : header_line_fault (take n lines) (get_or lines n []) ≡ number_line_fault (length (take n lines) + 1) (counts_in (take n lines ++ get_or lines n [] ∷ [])) (get_or lines n []) =
    ap (λ t. cond t (first_reason (first_line_tests (get_or lines n [])))
    (number_line_fault (length (take n lines) + 1) (counts_in (take n lines ++ get_or lines n [] ∷ []))
    (get_or lines n []))) (ne_eqb (length (take n lines)) 0 (omega (arith, size, some))) in
    ap (λ i. number_line_fault (n + 1) (counts_in (take (n + 1) lines)) (get_or lines i [])) same
    ∙ ap (λ l. number_line_fault (n + 1) (counts_in l) (get_or lines n [])) (take_more lines n [] within)
    ∙ ap (λ k. number_line_fault (k + 1) (counts_in (take n lines ++ get_or lines n [] ∷ [])) (get_or lines n [])) (sym size)
    ∙ sym now ∙ clean.clean n lt

words-clean : (line : ℕ) (counts : Counts) (ws : List (List ℕ)) → number_line_fault line counts ws ≡ None → words_fault line 1 ws ≡ None
unfolding number_line_fault
words-clean line counts ws clean = else-first _ _ clean

rules-clean : (line : ℕ) (counts : Counts) (ws : List (List ℕ)) → number_line_fault line counts ws ≡ None → first_reason (rule_tests line counts) ≡ None
unfolding number_line_fault
rules-clean line counts ws clean = (none_head (lacks_number header_rows line (length ws)) BadHeaderNumber (rule_tests line counts) (else-second _ _ clean)).1

-- the number at a place of a line that is not the first
number-of : (lines : Lines) (n place : ℕ) → 0 < n → n < 9 → 0 < place → AreNineClean lines → first_reason (field_tests (field_at (n + 1) place) (header_number lines (n + 1) place)) ≡ None
number-of lines n place some lt here clean = number-clean (n + 1) place (header_line lines (n + 1)) here (words-clean _ _ _ (line-of lines n some lt clean))

-- ---- The rules, one after the other.

is-zero : (row : ℕ) (required : Bool) (n : ℕ) → first_reason (field_tests (Some (record { row = row; required = required; zero = true })) n) ≡ None → (n == 0) ≡ true
unfolding field_tests
is-zero row required n clean = not-false (n == 0) (none_head (not (n == 0)) RefusedCount ((nat_lt (limit_of_row row) n, TooLarge) ∷ []) clean).0

is-within : (row limit : ℕ) (required : Bool) (n : ℕ) → limit_of
    (Some (record { row = row; required = required; zero = false })) ≡ limit
    → first_reason (field_tests (Some (record { row = row; required = required; zero = false })) n) ≡ None
    → nat_le n limit ≡ true
unfolding field_tests
is-within row limit required n same clean =
    let few : nat_lt (limit_of_row row) n ≡ false = (none_head (nat_lt (limit_of_row row) n) TooLarge [] clean).0 in
    le-leb n limit (omega (arith, same, ltb-false (limit_of_row row) n few))

no-refused : (lines : Lines) → AreNineClean lines → has_no_refused (counts_in lines) ≡ true
unfolding counts_in counts_by field_at header_rows
no-refused lines clean =
    both _ _
    (both _ _
    (both _ _
    (both _ _ (is-zero 7 false (header_number lines 2 6) (number-of lines 1 6 (omega arith) (omega arith) (omega arith) clean))
    (is-zero 10 true (header_number lines 4 1) (number-of lines 3 1 (omega arith) (omega arith) (omega arith) clean)))
    (is-zero 11 true (header_number lines 4 2) (number-of lines 3 2 (omega arith) (omega arith) (omega arith) clean)))
    (is-zero 15 true (header_number lines 6 1) (number-of lines 5 1 (omega arith) (omega arith) (omega arith) clean)))
    (is-zero 16 true (header_number lines 6 2) (number-of lines 5 2 (omega arith) (omega arith) (omega arith) clean))

sizes-within : (lines : Lines) → AreNineClean lines → are_sizes_within (counts_in lines) ≡ true
unfolding counts_in counts_by field_at header_rows
sizes-within lines clean =
    both _ _
    (both _ _
    (both _ _
    (is-within 2 (2 ^ 20) true (header_number lines 2 1) refl (number-of lines 1 1 (omega arith) (omega arith) (omega arith) clean))
    (is-within 3 (2 ^ 20) true (header_number lines 2 2) refl (number-of lines 1 2 (omega arith) (omega arith) (omega arith) clean)))
    (is-within 4 256 true (header_number lines 2 3) refl (number-of lines 1 3 (omega arith) (omega arith) (omega arith) clean)))
    (is-within 24 (2 ^ 22) true (header_number lines 8 1) refl (number-of lines 7 1 (omega arith) (omega arith) (omega arith) clean))

-- a number that was read, or 0, is below 2 ^ 31
small-word : (word : List ℕ) → unwrap_or (whole_of word) 0 < 2 ^ 31
unfolding whole_of
small-word word = by (are_digits word && nat_lt (digits_value 10 word) (2 ^ 31)) refl
  where
    by : (t : Bool) → (are_digits word && nat_lt (digits_value 10 word) (2 ^ 31)) ≡ t
        → unwrap_or (cond (are_digits word && nat_lt (digits_value 10 word) (2 ^ 31)) (Some (digits_value 10 word)) None)
        0 < 2 ^ 31
    by true e = subst (λ (t : Bool). unwrap_or (cond t (Some (digits_value 10 word)) None) 0 < 2 ^ 31) (sym e) (ltb-true (digits_value 10 word) (2 ^ 31) (second_of_both _ _ e))
    by false e = subst (λ (t : Bool). unwrap_or (cond t (Some (digits_value 10 word)) None) 0 < 2 ^ 31) (sym e) (omega arith)

all-small : (lines : Lines) (rows : List FieldRow) → list_all (λ n. nat_lt n (2 ^ 31)) (map (λ r. header_number lines r.line r.place) rows) ≡ true
all-small lines [] = refl
all-small lines (r ∷ rows) = both _ _ (lt-ltb (header_number lines r.line r.place) (2 ^ 31) (small-word (word_at (header_line lines r.line) (r.place - 1)))) (all-small lines rows)

numbers-are : (lines : Lines) → are_numbers (counts_in lines) ≡ true
unfolding counts_in counts_by header_rows
numbers-are lines = all-small lines (drop 1 header_rows)

line_at-take : (lines : Lines) (n line : ℕ) → 0 < line → line ≤ n → header_line (take n lines) line ≡ header_line lines line
line_at-take lines n line some le = get_or-take n lines (line - 1) [] (omega (arith, some, le))

shared-by : List (List ℕ) → Bool
shared-by w5 = nat_le (number_in w5 3) (number_in w5 1) && nat_le (number_in w5 3) (number_in w5 2)

whole-by : List (List ℕ) → List (List ℕ) → List (List ℕ) → Bool
whole-by w2 w5 w7 =
    nat_le (number_in w7 3) (number_in w5 3) && nat_le (number_in w7 4) (number_in w5 1 - number_in w5 3) && nat_le (number_in w7 5) (number_in w5 2 - number_in w5 1)
    && nat_le (max (number_in w5 1) (number_in w5 2) + number_in w7 1 + number_in w7 2) (number_in w2 1)

shared-is : (lines : Lines) → are_shared_within (counts_in lines) ≡ shared-by (header_line lines 5)
unfolding counts_in counts_by shared-by
shared-is lines = refl

whole-is : (lines : Lines) → are_whole_within (counts_in lines) ≡ whole-by (header_line lines 2) (header_line lines 5) (header_line lines 7)
unfolding counts_in counts_by whole-by
whole-is lines = refl

rule-five : (counts : Counts) → first_reason (rule_tests 5 counts) ≡ None → are_shared_within counts ≡ true
unfolding rule_tests
rule-five counts clean = not-false _ (none_head (not (are_shared_within counts)) CountsDisagree ((false, CountsDisagree) ∷ (false, TooLarge) ∷ []) clean).0

rule-seven : (counts : Counts) → first_reason (rule_tests 7 counts) ≡ None → are_whole_within counts ≡ true
unfolding rule_tests
rule-seven counts clean = not-false _ (none_head (not (are_whole_within counts)) CountsDisagree ((false, TooLarge) ∷ []) clean).0

shared-within : (lines : Lines) → AreNineClean lines → are_shared_within (counts_in lines) ≡ true
shared-within lines clean =
    shared-is lines ∙ ap shared-by (sym (line_at-take lines 5 5 (omega arith) (omega arith))) ∙ sym (shared-is (take 5 lines))
    ∙ rule-five (counts_in (take 5 lines)) (rules-clean 5 _ _ (line-of lines 4 (omega arith) (omega arith) clean))

whole-within : (lines : Lines) → AreNineClean lines → are_whole_within (counts_in lines) ≡ true
whole-within lines clean =
    whole-is lines
    ∙ ap (λ w. whole-by w (header_line lines 5) (header_line lines 7)) (sym (line_at-take lines 7 2 (omega arith) (omega arith)))
    ∙ ap (λ w. whole-by (header_line (take 7 lines) 2) w (header_line lines 7)) (sym (line_at-take lines 7 5 (omega arith) (omega arith)))
    ∙ ap (λ w. whole-by (header_line (take 7 lines) 2) (header_line (take 7 lines) 5) w) (sym (line_at-take lines 7 7 (omega arith) (omega arith)))
    ∙ sym (whole-is (take 7 lines))
    ∙ rule-seven (counts_in (take 7 lines)) (rules-clean 7 _ _ (line-of lines 6 (omega arith) (omega arith) clean))

options-from : (os : List ℤ) (c : ℕ) (d : Bool) → ((nat_le c 4 && d) && (length os == c)) && not (has_second_three os) ≡ true → are_options os ≡ true
options-from os c d has =
    let front : ((nat_le c 4 && d) && (length os == c)) ≡ true = first_of_both _ _ has in
    let few : c ≤ 4 = leb-true c 4 (first_of_both _ _ (first_of_both _ _ front)) in
    let same : length os ≡ c = eqb-true (length os) c (second_of_both (nat_le c 4 && d) (length os == c) front) in
    let small : nat_le (length os) 4 ≡ true = le-leb (length os) 4 (omega (arith, few, same)) in
    both _ _ small (second_of_both _ _ has)

first-options : (ws : List (List ℕ)) → first_reason (first_line_tests ws) ≡ None → are_options (options_of ws) ≡ true
unfolding first_line_tests
first-options ws clean =
    let has = has_options ws (unwrap_or (option_count ws) 0) in
    let last : List (Bool × HeadFault) = (not has, Options) ∷ [] in
    options-from (options_of ws) (unwrap_or (option_count ws) 0) _
    (not-false has (none_head (not has) Options [] (none_head (is_none (option_count ws)) BadFirstLine last
    (none_head (begins_with 98 (word_at ws 0)) BinaryFile ((is_none (option_count ws), BadFirstLine) ∷ last)
    clean).1).1).0)

first-fault : (lines : Lines) → header_line_fault (take 0 lines) (get_or lines 0 []) ≡ first_reason (first_line_tests (get_or lines 0 []))
unfolding header_line_fault
first-fault lines = refl

options-are : (lines : Lines) → AreNineClean lines → are_options (options_in lines) ≡ true
unfolding options_in
options-are lines clean = first-options (get_or lines 0 []) (sym (first-fault lines) ∙ clean.clean 0 (omega arith))

header-by : (o a b c d e f : Bool) → o ≡ true → a ≡ true → b ≡ true → c ≡ true → d ≡ true → e ≡ true → (o && (a && b && c && d && e && f)) ≡ f
header-by o a b c d e f ho ha hb hc hd he =
    ap (λ t. t && (a && b && c && d && e && f)) ho ∙ ap (λ t. t && f) (both _ _ (both _ _ (both _ _ (both _ _ ha hb) hc) hd) he)

-- only the rule of the last line can be broken
pub header-rule : (lines : List (List (List ℕ))) → AreNineClean lines → is_header (options_in lines) (counts_in lines) ≡ are_definitions_within (counts_in lines)
unfolding is_header
header-rule lines clean =
    header-by _ _ _ _ _ _ (are_definitions_within (counts_in lines)) (options-are lines clean) (numbers-are lines)
    (no-refused lines clean) (sizes-within lines clean) (shared-within lines clean) (whole-within lines clean)

pub last_rule-kept : (counts : Counts) → are_definitions_within counts ≡ true → last_rule 10 counts ≡ None
unfolding last_rule
last_rule-kept counts e = ap (λ t. cond (not t) (Some TooLarge) None) e

pub last_rule-broken : (counts : Counts) → are_definitions_within counts ≡ false → last_rule 10 counts ≡ Some TooLarge
unfolding last_rule
last_rule-broken counts e = ap (λ t. cond (not t) (Some TooLarge) None) e

pub last_rule-before : (line : ℕ) (counts : Counts) → line < 10 → last_rule line counts ≡ None
unfolding last_rule
last_rule-before line counts lt = ap (λ t. cond (t && not (are_definitions_within counts)) (Some TooLarge) None) (ne_eqb line 10 (omega (arith, lt)))
