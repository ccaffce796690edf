-- A line of numbers that is taken.
use Rattle.std.proofs.Common.{◌≡◌, ◌∙◌, ℕ, ◌+◌, ◌<◌, Bool, true, false, cond, List, [], ◌∷◌, ◌++◌, length, take, Option, Some, None, Result, Ok, Err, sym, ap, arith, ne_eqb}
use Rattle.std.specs.Prelude.{IsTrue}
use Rattle.std.proofs.lemmas.List.{get_or_append_left, length-append}
use Rattle.code_tables.specs.Header.{header_rows}
use Rattle.nl_model.specs.declared.header_counts.Counts.{Counts}
use Rattle.nl_model.specs.declared.header.Header.{Header}
use Rattle.nl_model.specs.HeaderRules.{is_header, are_definitions_within}
use Rattle.text_base.specs.Judged.{first_reason}
use Rattle.nl_header.specs.declared.fault.HeadFault.{HeadFault}
use Rattle.nl_header.specs.Head.{number_line_fault, header_line_fault, first_line_tests, options_in, options_of, counts_in}
use Rattle.nl_header.specs.Reading.{Taken, IsReading, AreClean, numbers_in, put_in, counts_from, last_rule, Takes, Closes}
use Rattle.nl_header.proofs.ReaderLemmas.{put_in-row, put_in-more, counts_from-in, clean-more}
use Rattle.nl_header.proofs.HeaderLaw.{nine_clean, header-rule, last_rule-kept, last_rule-broken, last_rule-before}

numbers-more : (s : Taken) (before : List (List (List ℕ))) (ws row : List (List ℕ)) → row ≡ take 12 ws
    → IsReading s before → put_in header_rows (s.lines + 1) row s.numbers ≡ numbers_in (before ++ ws ∷ [])
numbers-more s before ws row is reading =
    put_in-row (s.lines + 1) ws row s.numbers is
    ∙ ap (λ n. put_in header_rows (n + 1) ws s.numbers) reading.count
    ∙ ap (put_in header_rows (length before + 1) ws) reading.numbers
    ∙ put_in-more before ws

fault-later : (s : Taken) (before : List (List (List ℕ))) (ws : List (List ℕ)) → (s.lines ≡ 0 → ⊥) → IsReading s before
    → header_line_fault before ws ≡ number_line_fault (s.lines + 1) (counts_in (before ++ ws ∷ [])) ws
unfolding header_line_fault
fault-later s before ws some reading =
    ap (λ t. cond t (first_reason (first_line_tests ws)) (number_line_fault (length before + 1) (counts_in (before ++ ws ∷ [])) ws))
    (ne_eqb (length before) 0 (λ e. some (reading.count ∙ e)))
    ∙ ap (λ n. number_line_fault (n + 1) (counts_in (before ++ ws ∷ [])) ws) (sym reading.count)

pub number-err : (s : Taken) (before : List (List (List ℕ))) (ws row : List (List ℕ)) (f : HeadFault) → row ≡ take 12 ws
    → (s.lines ≡ 0 → ⊥) → IsReading s before → number_line_fault (s.lines + 1)
    (counts_from (put_in header_rows (s.lines + 1) row s.numbers)) ws ≡ Some f → header_line_fault before ws ≡ Some f
number-err s before ws row f is some reading fault =
    fault-later s before ws some reading
    ∙ ap (λ c. number_line_fault (s.lines + 1) c ws) (sym (counts_from-in (before ++ ws ∷ [])) ∙ ap counts_from (sym (numbers-more s before ws row is reading)))
    ∙ fault

options-more : (before : List (List (List ℕ))) (ws : List (List ℕ)) → 0 < length before → options_in before ≡ options_in (before ++ ws ∷ [])
unfolding options_in
options-more before ws some = ap options_of (sym (get_or_append_left before (ws ∷ []) [] 0 some))

-- the counts and the fault of the line, once its words are taken
record IsTaken (before : List (List (List ℕ))) (ws : List (List ℕ)) (s mid : Taken) (counts : Counts) : Type 0 where
  some : 0 < length before
  lines : mid.lines ≡ length before
  options : mid.options ≡ options_in (before ++ ws ∷ [])
  numbers : mid.numbers ≡ numbers_in (before ++ ws ∷ [])
  going : mid.fault ≡ None
  counts_are : counts ≡ counts_in (before ++ ws ∷ [])
  fault : header_line_fault before ws ≡ last_rule (length before + 1) counts
  clean : AreClean before

taken : (s mid : Taken) (before : List (List (List ℕ))) (ws row : List (List ℕ)) (counts : Counts) → row ≡ take 12 ws
    → (s.lines ≡ 0 → ⊥) → IsReading s before → mid ≡ record s { numbers = put_in header_rows (s.lines + 1) row s.numbers }
    → counts ≡ counts_from mid.numbers → number_line_fault (s.lines + 1) counts ws ≡ last_rule (s.lines + 1) counts
    → IsTaken before ws s mid counts
taken s mid before ws row counts is some reading step are fault =
    let begun : 0 < length before = positive (length before) (λ e. some (reading.count ∙ e)) in
    let numbers_are : mid.numbers ≡ numbers_in (before ++ ws ∷ []) = ap (λ m. m.numbers) step ∙ numbers-more s before ws row is reading in
    let all_counts : counts ≡ counts_in (before ++ ws ∷ []) = are ∙ ap counts_from numbers_are ∙ counts_from-in (before ++ ws ∷ []) in
    record {
      some = begun;
      lines = ap (λ m. m.lines) step ∙ reading.count;
      options = ap (λ m. m.options) step ∙ reading.options ∙ options-more before ws begun;
      numbers = numbers_are;
      going = ap (λ m. m.fault) step ∙ reading.going;
      counts_are = all_counts;
      fault = fault-later s before ws some reading ∙ ap (λ c. number_line_fault (s.lines + 1) c ws) (sym all_counts) ∙ fault ∙ ap (λ n. last_rule (n + 1) counts) reading.count;
      clean = reading.clean;
    }
  where
    positive : (n : ℕ) → (n ≡ 0 → ⊥) → 0 < n
    positive n h = omega (arith, h)

rules-true : (b : Bool) → IsTrue b → b ≡ true
rules-true b t = t

closes : (before : List (List (List ℕ))) (ws : List (List ℕ)) (s mid new : Taken) (counts : Counts)
    (result : Result (Option Header) HeadFault) → IsTaken before ws s mid counts → Closes mid counts result new
    → Takes before ws result new
closes before ws s mid new counts (Ok None) is closed =
    let line : length before + 1 < 10 = omega (arith, is.lines, closed.0) in
    let this : header_line_fault before ws ≡ None = is.fault ∙ last_rule-before (length before + 1) counts line in
    record {
      clean = this;
      reading = record {
        count = ap (λ m. m.lines) closed.1 ∙ ap (λ n. n + 1) is.lines ∙ sym (length-append before (ws ∷ []));
        options = ap (λ m. m.options) closed.1 ∙ is.options;
        numbers = ap (λ m. m.numbers) closed.1 ∙ is.numbers;
        going = ap (λ m. m.fault) closed.1 ∙ is.going;
        clean = clean-more before ws is.clean this;
      };
    }
closes before ws s mid new counts (Ok (Some header)) is closed =
    let nine : length before ≡ 9 = sym is.lines ∙ closed.0 in
    let options_are : header.options ≡ options_in (before ++ ws ∷ []) = closed.1 ∙ is.options in
    let counts_are : header.counts ≡ counts_in (before ++ ws ∷ []) = closed.2 ∙ is.counts_are in
    let ruled : is_header header.options header.counts ≡ true = rules-true _ header.ruled in
    let within : are_definitions_within (counts_in (before ++ ws ∷ [])) ≡ true =
    sym (header-rule (before ++ ws ∷ []) (nine_clean before ws nine is.clean))
    ∙ ap (λ o. is_header o (counts_in (before ++ ws ∷ []))) (sym options_are)
    ∙ ap (is_header header.options) (sym counts_are) ∙ ruled in
    record {
      clean = is.fault ∙ ap (λ n. last_rule (n + 1) counts) nine ∙ ap (last_rule 10) is.counts_are ∙ last_rule-kept _ within;
      says = record {
        count = length-append before (ws ∷ []) ∙ ap (λ n. n + 1) nine;
        options = options_are;
        counts = counts_are;
      };
      count = closed.3;
    }
closes before ws s mid new counts (Err fault) is closed =
    let nine : length before ≡ 9 = sym is.lines ∙ closed.0 in
    let broken : are_definitions_within (counts_in (before ++ ws ∷ [])) ≡ false =
    sym (header-rule (before ++ ws ∷ []) (nine_clean before ws nine is.clean))
    ∙ ap (λ o. is_header o (counts_in (before ++ ws ∷ []))) (sym is.options)
    ∙ ap (is_header mid.options) (sym is.counts_are) ∙ closed.2 in
    is.fault ∙ ap (λ n. last_rule (n + 1) counts) nine ∙ ap (last_rule 10) is.counts_are ∙ last_rule-broken _ broken ∙ ap Some (sym closed.1)

pub number-ok : (s mid new : Taken) (before : List (List (List ℕ))) (ws row : List (List ℕ)) (counts : Counts)
    (result : Result (Option Header) HeadFault) → row ≡ take 12 ws → (s.lines ≡ 0 → ⊥) → IsReading s before
    → mid ≡ record s { numbers = put_in header_rows (s.lines + 1) row s.numbers } → counts ≡ counts_from mid.numbers
    → number_line_fault (s.lines + 1) counts ws ≡ last_rule (s.lines + 1) counts → Closes mid counts result new
    → Takes before ws result new
number-ok s mid new before ws row counts result is some reading step are fault closed =
    closes before ws s mid new counts result (taken s mid before ws row counts is some reading step are fault) closed
