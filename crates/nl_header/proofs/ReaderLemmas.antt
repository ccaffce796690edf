-- Lines taken one after the other.
use Rattle.std.proofs.Common.{◌≡◌, ◌∙◌, ℕ, ◌+◌, ◌-◌, ◌<◌, ◌≤◌, ◌==◌, ◌&&◌, ◌||◌, Bool, true, false, not, cond, List, []}
use Rattle.std.proofs.Common.{◌∷◌, ◌++◌, length, get_or, map, take, drop, Option, Some, None, refl, sym, ap, arith}
use Rattle.std.proofs.Common.{unwrap_or, Bor, ℤ}
use Rattle.std.specs.Prelude.{nat_lt, nat_le, is_none}
use Rattle.std.specs.List.{list_all}
use Rattle.std.specs.Option.{option_or}
use Rattle.std.proofs.lemmas.List.{get_or_past, length-map, get_or-take, get_or_append_left, take-append-le, length-append, length-take, length-drop, take_all}
use Rattle.std.proofs.Math.Seq.{get_or-append_seam}
use Rattle.std.proofs.Math.Bool.{and-false}
use Rattle.std.proofs.lemmas.Option.{none-some}
use Rattle.std.proofs.lemmas.Bool.{eqb-true, eqb-false, lt-ltb, ltb-true, ltb-false, le-ltb, leb-true, leb-false}
use Rattle.text_base.specs.Words.{texts, word_at, words_of, row_of}
use Rattle.text_base.specs.Judged.{first_reason}
use Rattle.code_tables.specs.declared.field.FieldRow.{FieldRow}
use Rattle.code_tables.specs.Header.{header_rows}
use Rattle.nl_model.specs.declared.header_counts.Counts.{Counts}
use Rattle.nl_model.specs.Options.{has_second_three}
use Rattle.nl_header.specs.declared.fault.HeadFault.{HeadFault}
use Rattle.nl_header.specs.declared.fault.HeadFault.TheVariants.{BadHeaderNumber, BinaryFile, BadFirstLine, Options}
use Rattle.exact_numbers.specs.Numbers.{whole_of}
use Rattle.nl_header.specs.Head.{number_in, header_number, header_line, number_after, words_fault, lacks_number}
use Rattle.nl_header.specs.Head.{rule_tests, number_line_fault, header_line_fault, first_line_tests, options_in}
use Rattle.nl_header.specs.Head.{options_of, counts_in, counts_by, has_options, option_count, begins_with}
use Rattle.nl_header.specs.Reading.{Taken, IsReading, AreClean, numbers_in, put_in, counts_from, GoesOn}
use Rattle.exact_numbers.proofs.NumberLemmas.{first_of_both, second_of_both}
use Rattle.nl_header.proofs.HeadLemmas.{header_places}

-- ---- No line.

pub nothing_read : (options : List ℤ) → options ≡ [] → IsReading
    (record {
      lines = 0;
      options = options;
      numbers = 0 ∷ 0 ∷ 0 ∷ 0 ∷ 0 ∷ 0 ∷ 0 ∷ 0 ∷ 0 ∷ 0 ∷ 0 ∷ 0 ∷ 0 ∷ 0 ∷ 0 ∷ 0 ∷ 0
          ∷ 0 ∷ 0 ∷ 0 ∷ 0 ∷ 0 ∷ 0 ∷ 0 ∷ 0 ∷ 0 ∷ 0 ∷ 0 ∷ 0 ∷ 0 ∷ 0 ∷ 0 ∷ [];
      fault = None;
    }) []
unfolding options_in numbers_in header_rows whole_of
nothing_read options none = record {
  count = refl;
  options = none;
  numbers = refl;
  going = refl;
  clean = record { clean = λ i lt. absurd (omega arith) };
}

-- ---- The first twelve words stand for all.

header_lines : list_all (λ r. nat_lt 0 r.line) header_rows ≡ true
unfolding header_rows
header_lines = refl

word_at-row : (ws : List (List ℕ)) (i : ℕ) → i < 12 → word_at (take 12 ws) i ≡ word_at ws i
word_at-row ws i lt = get_or-take 12 ws i [] lt

number_after-row : (r : FieldRow) (line : ℕ) (ws : List (List ℕ)) (n : ℕ) → r.place < 7 → number_after r line (take 12 ws) n ≡ number_after r line ws n
number_after-row r line ws n lt = ap (λ w. cond (r.line == line) (unwrap_or (whole_of w) 0) n) (word_at-row ws (r.place - 1) (omega (arith, lt)))

put_in-row-by : (rows : List FieldRow) (line : ℕ) (ws : List (List ℕ)) (numbers : List ℕ)
    → list_all (λ r. nat_lt r.place 7) rows ≡ true → put_in rows line (take 12 ws) numbers ≡ put_in rows line ws numbers
unfolding put_in
put_in-row-by [] line ws numbers small = refl
put_in-row-by (r ∷ rows) line ws [] small = refl
put_in-row-by (r ∷ rows) line ws (n ∷ numbers) small =
    ap (λ x. x ∷ put_in rows line (take 12 ws) numbers) (number_after-row r line ws n (ltb-true _ _ (first_of_both _ _ small)))
    ∙ ap (λ xs. number_after r line ws n ∷ xs) (put_in-row-by rows line ws numbers (second_of_both _ _ small))

pub put_in-row : (line : ℕ) (ws row : List (List ℕ)) (numbers : List ℕ) → row ≡ take 12 ws → put_in header_rows line row numbers ≡ put_in header_rows line ws numbers
put_in-row line ws row numbers is = ap (λ w. put_in header_rows line w numbers) is ∙ put_in-row-by header_rows line ws numbers header_places

count-row : (ws : List (List ℕ)) (place : ℕ) → place < 7 → nat_lt (length (take 12 ws)) place ≡ nat_lt (length ws) place
count-row ws place lt = by (nat_lt (length ws) place) refl
  where
    by : (t : Bool) → nat_lt (length ws) place ≡ t → nat_lt (length (take 12 ws)) place ≡ nat_lt (length ws) place
    by true e = lt-ltb (length (take 12 ws)) place (omega (arith, ltb-true _ _ e, length-take 12 ws)) ∙ sym e
    by false e = le-ltb (length (take 12 ws)) place (omega (arith, ltb-false _ _ e, length-take 12 ws, lt)) ∙ sym e

is_short-row-by : (rows : List FieldRow) (line : ℕ) (ws : List (List ℕ)) → list_all (λ r. nat_lt r.place 7) rows ≡ true
    → lacks_number rows line (length (take 12 ws)) ≡ lacks_number rows line (length ws)
unfolding lacks_number
is_short-row-by [] line ws small = refl
is_short-row-by (r ∷ rows) line ws small =
    let more : lacks_number rows line (length (take 12 ws)) ≡ lacks_number rows line (length ws) = is_short-row-by rows line ws (second_of_both _ _ small) in
    ap (λ t. ((r.line == line) && r.field.required && t) || lacks_number rows line (length (take 12 ws))) (count-row ws r.place (ltb-true _ _ (first_of_both _ _ small)))
    ∙ ap (λ t. ((r.line == line) && r.field.required && nat_lt (length ws) r.place) || t) more

pub short_at : (t u : Bool) (rows : List FieldRow) (line : ℕ) (text : List ℕ) (words : List (Bor (List ℕ)))
    → t ≡ lacks_number rows line (length words) → rows ≡ header_rows → texts words ≡ row_of text → t ≡ u
    → lacks_number header_rows line (length (words_of text)) ≡ u
short_at t u rows line text words short is same e =
    let count : length words ≡ length (take 12 (words_of text)) = sym (length-map words (λ w. w.now)) ∙ ap length same in
    sym (is_short-row-by header_rows line (words_of text) header_places) ∙ ap (lacks_number header_rows line) (sym count) ∙ ap (λ r. lacks_number r line (length words)) (sym is) ∙ sym short ∙ e

-- ---- The faults of a line of numbers.

pub line_words : (line : ℕ) (counts : Counts) (ws : List (List ℕ)) (f : HeadFault) → words_fault line 1 ws ≡ Some f → number_line_fault line counts ws ≡ Some f
unfolding number_line_fault
line_words line counts ws f e = ap (λ g. option_or g (first_reason ((lacks_number header_rows line (length ws), BadHeaderNumber) ∷ rule_tests line counts))) e

pub line_short : (line : ℕ) (counts : Counts) (ws : List (List ℕ)) → words_fault line 1 ws ≡ None
    → lacks_number header_rows line (length ws) ≡ true → number_line_fault line counts ws ≡ Some BadHeaderNumber
unfolding number_line_fault
line_short line counts ws e short =
    ap (λ g. option_or g (first_reason ((lacks_number header_rows line (length ws), BadHeaderNumber) ∷ rule_tests line counts))) e
    ∙ ap (λ t. cond t (Some BadHeaderNumber) (first_reason (rule_tests line counts))) short

pub line_rules : (line : ℕ) (counts : Counts) (ws : List (List ℕ)) (o : Option HeadFault) → words_fault line 1 ws ≡ None
    → lacks_number header_rows line (length ws) ≡ false → first_reason (rule_tests line counts) ≡ o
    → number_line_fault line counts ws ≡ o
unfolding number_line_fault
line_rules line counts ws o e short rules =
    ap (λ g. option_or g (first_reason ((lacks_number header_rows line (length ws), BadHeaderNumber) ∷ rule_tests line counts))) e
    ∙ ap (λ t. cond t (Some BadHeaderNumber) (first_reason (rule_tests line counts))) short ∙ rules

-- ---- One more line.

pub line_at-more : (before : List (List (List ℕ))) (ws : List (List ℕ)) (line : ℕ) → 0 < line → header_line (before ++ ws ∷ []) line ≡ cond (line == length before + 1) ws (header_line before line)
line_at-more before ws line some = by (line == length before + 1) refl
  where
    by : (t : Bool) → (line == length before + 1) ≡ t → header_line (before ++ ws ∷ []) line ≡ cond (line == length before + 1) ws (header_line before line)
    by true e =
        let same : line - 1 ≡ length before = omega (arith, eqb-true _ _ e) in
        ap (λ i. get_or (before ++ ws ∷ []) i []) same ∙ get_or-append_seam before ws [] [] ∙ sym (ap (λ t. cond t ws (header_line before line)) e)
    by false e = here (nat_lt (line - 1) (length before)) refl ∙ sym (ap (λ t. cond t ws (header_line before line)) e)
      where
        here : (t : Bool) → nat_lt (line - 1) (length before) ≡ t → header_line (before ++ ws ∷ []) line ≡ header_line before line
        here true lt = get_or_append_left before (ws ∷ []) [] (line - 1) (ltb-true _ _ lt)
        here false ge =
            let past : length before < line - 1 = omega (arith, ltb-false _ _ ge, eqb-false line (length before + 1) e, some) in
            get_or_past (before ++ ws ∷ []) (line - 1) [] (omega (arith, length-append before (ws ∷ []), past)) ∙ sym (get_or_past before (line - 1) [] (omega (arith, past)))

number_after-more : (before : List (List (List ℕ))) (ws : List (List ℕ)) (r : FieldRow) → 0 < r.line
    → number_after r (length before + 1) ws (header_number before r.line r.place)
    ≡ header_number (before ++ ws ∷ []) r.line r.place
number_after-more before ws r some = by (r.line == length before + 1) refl ∙ sym (ap (λ l. number_in l r.place) (line_at-more before ws r.line some))
  where
    by : (t : Bool) → (r.line == length before + 1) ≡ t → cond (r.line == length before + 1) (number_in ws r.place)
        (header_number before r.line r.place) ≡ number_in (cond (r.line == length before + 1) ws
        (header_line before r.line)) r.place
    by true e = ap (λ t. cond t (number_in ws r.place) (header_number before r.line r.place)) e ∙ sym (ap (λ t. number_in (cond t ws (header_line before r.line)) r.place) e)
    by false e = ap (λ t. cond t (number_in ws r.place) (header_number before r.line r.place)) e ∙ sym (ap (λ t. number_in (cond t ws (header_line before r.line)) r.place) e)

put_in-more-by : (rows : List FieldRow) (before : List (List (List ℕ))) (ws : List (List ℕ))
    → list_all (λ r. nat_lt 0 r.line) rows ≡ true → put_in rows (length before + 1) ws
    (map (λ r. header_number before r.line r.place) rows) ≡ map (λ r. header_number (before ++ ws ∷ []) r.line r.place)
    rows
unfolding put_in
put_in-more-by [] before ws some = refl
put_in-more-by (r ∷ rows) before ws some =
    ap (λ x. x ∷ put_in rows (length before + 1) ws (map (λ r. header_number before r.line r.place) rows)) (number_after-more before ws r (ltb-true _ _ (first_of_both _ _ some)))
    ∙ ap (λ xs. header_number (before ++ ws ∷ []) r.line r.place ∷ xs) (put_in-more-by rows before ws (second_of_both _ _ some))

pub put_in-more : (before : List (List (List ℕ))) (ws : List (List ℕ)) → put_in header_rows (length before + 1) ws (numbers_in before) ≡ numbers_in (before ++ ws ∷ [])
unfolding numbers_in
put_in-more before ws = put_in-more-by header_rows before ws header_lines

pub counts_from-in : (lines : List (List (List ℕ))) → counts_from (numbers_in lines) ≡ counts_in lines
unfolding counts_from numbers_in counts_in counts_by header_rows
counts_from-in lines = refl

-- ---- The first line.

too-many : (c n : ℕ) → 5 ≤ n → (nat_le c 4 && (n == c)) ≡ false
too-many c n many = by (nat_le c 4) refl (n == c) refl
  where
    by : (s : Bool) → nat_le c 4 ≡ s → (t : Bool) → (n == c) ≡ t → (nat_le c 4 && (n == c)) ≡ false
    by true e true f = absurd (omega (arith, leb-true c 4 e, eqb-true n c f, many))
    by true e false f = ap (λ t. nat_le c 4 && t) f ∙ and-false (nat_le c 4)
    by false e t f = ap (λ s. s && (n == c)) e

no_options : (ws : List (List ℕ)) (c : ℕ) → 6 ≤ length ws → has_options ws c ≡ false
no_options ws c many =
    ap (λ t. (t && (length (options_of ws) == c)) && not (has_second_three (options_of ws))) (too-many c (length (drop 1 ws)) (omega (arith, length-drop 1 ws, many)))

option_count-row : (ws : List (List ℕ)) → option_count (take 12 ws) ≡ option_count ws
option_count-row ws = ap (λ w. cond (begins_with 103 w) (whole_of (drop 1 w)) None) (word_at-row ws 0 (omega arith))

never : (a b : Bool) (x y z : HeadFault) → first_reason ((a, x) ∷ (b, y) ∷ (true, z) ∷ []) ≡ None → ⊥
never true b x y z e = none-some _ (sym e)
never false true x y z e = none-some _ (sym e)
never false false x y z e = none-some _ (sym e)

pub first_reason-row : (ws : List (List ℕ)) → first_reason (first_line_tests (take 12 ws)) ≡ first_reason (first_line_tests ws)
unfolding first_line_tests
first_reason-row ws = by (nat_le (length ws) 12) refl
  where
    by : (t : Bool) → nat_le (length ws) 12 ≡ t → first_reason (first_line_tests (take 12 ws)) ≡ first_reason (first_line_tests ws)
    by true e = ap (λ w. first_reason (first_line_tests w)) (take_all 12 ws (leb-true _ _ e))
    by false e =
        let many : 13 ≤ length ws = omega (arith, leb-false _ _ e) in
        ap (λ w. first_reason ((begins_with 98 w, BinaryFile) ∷ (is_none (option_count (take 12 ws)), BadFirstLine)
        ∷ (not (has_options (take 12 ws) (unwrap_or (option_count (take 12 ws)) 0)), Options) ∷ []))
        (word_at-row ws 0 (omega arith))
        ∙ ap (λ o. first_reason ((begins_with 98 (word_at ws 0), BinaryFile) ∷ (is_none o, BadFirstLine) ∷ (not (has_options (take 12 ws) (unwrap_or o 0)), Options) ∷ [])) (option_count-row ws)
        ∙ ap (λ t. first_reason ((begins_with 98 (word_at ws 0), BinaryFile) ∷ (is_none (option_count ws), BadFirstLine) ∷ (not t, Options) ∷ []))
        (no_options (take 12 ws) (unwrap_or (option_count ws) 0) (omega (arith, length-take 12 ws, many)) ∙ sym (no_options ws (unwrap_or (option_count ws) 0) (omega (arith, many))))

pub first_row-whole : (ws : List (List ℕ)) → first_reason (first_line_tests ws) ≡ None → take 12 ws ≡ ws
unfolding first_line_tests
first_row-whole ws clean = by (nat_le (length ws) 12) refl
  where
    by : (t : Bool) → nat_le (length ws) 12 ≡ t → take 12 ws ≡ ws
    by true e = take_all 12 ws (leb-true _ _ e)
    by false e =
        let many : 6 ≤ length ws = omega (arith, leb-false _ _ e) in
        absurd (never (begins_with 98 (word_at ws 0)) (is_none (option_count ws)) BinaryFile BadFirstLine Options
        (ap (λ t. first_reason ((begins_with 98 (word_at ws 0), BinaryFile) ∷ (is_none (option_count ws), BadFirstLine)
        ∷ (not t, Options) ∷ [])) (sym (no_options ws (unwrap_or (option_count ws) 0) many)) ∙ clean))

-- ---- All lines so far.

pub clean-more : (before : List (List (List ℕ))) (ws : List (List ℕ)) → AreClean before → header_line_fault before ws ≡ None → AreClean (before ++ ws ∷ [])
clean-more before ws clean this = record {
  clean = λ i lt. at i (omega (arith, lt, length-append before (ws ∷ []))) (nat_lt i (length before)) refl;
}
  where
    at : (i : ℕ) → i < length before + 1 → (t : Bool) → nat_lt i (length before) ≡ t → header_line_fault (take i (before ++ ws ∷ [])) (get_or (before ++ ws ∷ []) i []) ≡ None
    at i le true e =
        let lt : i < length before = ltb-true _ _ e in
        ap (λ b. header_line_fault b (get_or (before ++ ws ∷ []) i [])) (take-append-le i before (ws ∷ []) (omega (arith, lt)))
        ∙ ap (header_line_fault (take i before)) (get_or_append_left before (ws ∷ []) [] i lt) ∙ clean.clean i lt
    at i le false e =
        let same : i ≡ length before = omega (arith, ltb-false _ _ e, le) in
        ap (λ j. header_line_fault (take j (before ++ ws ∷ [])) (get_or (before ++ ws ∷ []) j [])) same
        ∙ ap (λ b. header_line_fault b (get_or (before ++ ws ∷ []) (length before) [])) (take-append-le (length before) before (ws ∷ []) (omega arith) ∙ take_all (length before) before (omega arith))
        ∙ ap (header_line_fault before) (get_or-append_seam before ws [] []) ∙ this

no_lines : (before : List (List (List ℕ))) → length before ≡ 0 → before ≡ []
no_lines [] e = refl
no_lines (l ∷ before) e = absurd (omega (arith, e))

first_fault : (ws : List (List ℕ)) → header_line_fault [] ws ≡ first_reason (first_line_tests ws)
unfolding header_line_fault
first_fault ws = refl

pub first-err : (s : Taken) (before : List (List (List ℕ))) (ws row : List (List ℕ)) (f : HeadFault) → row ≡ take 12 ws
    → s.lines ≡ 0 → IsReading s before → first_reason (first_line_tests row) ≡ Some f
    → header_line_fault before ws ≡ Some f
first-err s before ws row f is none reading fault =
    ap (λ b. header_line_fault b ws) (no_lines before (sym reading.count ∙ none)) ∙ first_fault ws ∙ sym (first_reason-row ws) ∙ ap (λ w. first_reason (first_line_tests w)) (sym is) ∙ fault

pub first-ok : (s new : Taken) (before : List (List (List ℕ))) (ws row : List (List ℕ)) → row ≡ take 12 ws → s.lines ≡ 0
    → IsReading s before → first_reason (first_line_tests row) ≡ None
    → new ≡ record s { lines = 1; options = options_of row; numbers = put_in header_rows 1 row s.numbers }
    → GoesOn before ws new
unfolding options_in
first-ok s new before ws row is none reading fine step =
    let nil : before ≡ [] = no_lines before (sym reading.count ∙ none) in
    let clean : first_reason (first_line_tests ws) ≡ None = sym (first_reason-row ws) ∙ ap (λ w. first_reason (first_line_tests w)) (sym is) ∙ fine in
    let whole : row ≡ ws = is ∙ first_row-whole ws clean in
    let this : header_line_fault before ws ≡ None = ap (λ b. header_line_fault b ws) nil ∙ first_fault ws ∙ clean in
    record {
      clean = this;
      reading = record {
        count = ap (λ n. n.lines) step ∙ sym (ap (λ b. length (b ++ ws ∷ [])) nil);
        options = ap (λ n. n.options) step ∙ ap options_of whole ∙ sym (ap (λ b. options_in (b ++ ws ∷ [])) nil);
        numbers = ap (λ n. n.numbers) step ∙ ap (λ w. put_in header_rows 1 w s.numbers) whole
            ∙ ap (put_in header_rows 1 ws) (reading.numbers ∙ ap numbers_in nil) ∙ put_in-more [] ws
            ∙ sym (ap (λ b. numbers_in (b ++ ws ∷ [])) nil);
        going = ap (λ n. n.fault) step ∙ reading.going;
        clean = clean-more before ws reading.clean this;
      };
    }
