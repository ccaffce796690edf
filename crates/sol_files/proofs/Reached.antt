-- Lines without faults, and what they mean for the next one.
use Rattle.std.proofs.Common.{◌≡◌, ◌∙◌, ℕ, ◌+◌, ◌<◌, ◌≤◌, Bool, true, false, ◌&&◌, cond, List, [], ◌∷◌, ◌++◌, length, None, refl, sym, ap, subst, arith, ◌==◌}
use Rattle.std.specs.List.{AllByRecursion}
use Rattle.std.proofs.lemmas.Bool.{ne_eqb, and_right}
use Rattle.std.proofs.lemmas.List.{append-nil, append_assoc, length-append, length_push}
use Rattle.text_base.specs.Judged.{Open, End, IsClean, first_reason}
use Rattle.text_base.specs.Words.{row_of}
use Rattle.text_base.specs.Cut.{IsTextLine}
use Rattle.text_base.proofs.JudgedLemmas.{clean_none, clean_last, clean_more}
use Rattle.sol_files.specs.declared.awaited.Awaited.{Awaited}
use Rattle.sol_files.specs.declared.awaited.Awaited.TheVariants.{Message, OptionCount}
use Rattle.std.specs.Prelude.{codes}
use Rattle.exact_numbers.specs.Numbers.{whole_of}
use Rattle.sol_files.specs.Sol.{Sol}
use Rattle.sol_files.specs.Rows.{Row}
use Rattle.sol_files.specs.Parts.{ends_blank, without_blank_end}
use Rattle.sol_files.specs.Standing.{Standing, message_count}
use Rattle.sol_files.specs.Progress.{Progress, kind_of, seen, start}
use Rattle.sol_files.specs.Tests.{line_tests, line_tests_at, message_tests, row_tests, row_line_tests, end_tests}
use Rattle.sol_files.specs.Grammar.{sol_rules}
use Rattle.sol_files.specs.Saying.{sol_of}
use Rattle.sol_files.specs.Built.{empty_sol}
use Rattle.sol_files.specs.Written.{IsSaidLine}
use Rattle.sol_files.specs.Steps.{after, after_at, after_row, after_row_line, held_lines, read}
use Rattle.text_base.specs.WordLines.{spaced}
use Rattle.sol_files.proofs.MessageLemmas.{held_back, without_blank_end-more}
use Rattle.sol_files.proofs.StandingLemmas.{standing-read, read-more, read-none, is_plain, plain_after, spoken, spoken_more}
use Rattle.sol_files.proofs.ShortWords.{IsShortWord, are_words, row-line}
use Rattle.written_texts.proofs.WordLemmas.{row-spaced}
use Rattle.text_base.proofs.AllLemmas.{all_push}

-- the lines have no fault, mean this, and each of them is a line of a text
pub record IsReached (lines : List (List ℕ)) (s : Progress) : Type 0 where
  pub clean : IsClean sol_rules lines Open
  pub here : read lines ≡ s
  pub ones : AllByRecursion IsTextLine lines

pub reached_none : IsReached [] start
reached_none = record { clean = clean_none sol_rules; here = read-none; ones = tt }

pub reached_more : (lines : List (List ℕ)) (s t : Progress) (line : List ℕ) → IsReached lines s → IsTextLine line
    → first_reason (line_tests (seen s) line) ≡ None → after s line ≡ t → IsReached (lines ++ line ∷ []) t
reached_more lines s t line h one fine e =
    record {
      clean = clean_more sol_rules lines line h.clean (ap (λ (x : Standing). first_reason (line_tests x line)) (standing-read lines ∙ ap seen h.here) ∙ fine);
      here = read-more lines line ∙ ap (λ (x : Progress). after x line) h.here ∙ e;
      ones = all_push IsTextLine lines line h.ones one;
    }

pub reached_end : (lines : List (List ℕ)) (s : Progress) → IsReached lines s → first_reason (end_tests (seen s)) ≡ None → IsClean sol_rules lines End
reached_end lines s h e = clean_last sol_rules lines End h.clean (ap (λ (x : Standing). first_reason (end_tests x)) (standing-read lines ∙ ap seen h.here) ∙ e)

-- the same in other words
pub also : (lines : List (List ℕ)) (s t : Progress) → s ≡ t → IsReached lines s → IsReached lines t
also lines s t e h = subst (IsReached lines) e h

-- ---- written rows

pub record AreWords (words : Row) : Type 0 where
  pub some : 0 < length words
  pub few : length words ≤ 12
  pub each : AllByRecursion IsShortWord words

pub plain_tests : (a : Awaited) (s : Standing) (line : List ℕ) → is_plain a ≡ true → row_line_tests (kind_of a) s (row_of line) ≡ line_tests_at (kind_of a) s line
unfolding line_tests_at
plain_tests Message s line e = cc
plain_tests a s line e = cc

pub reached_row : (lines : List (List ℕ)) (s t : Progress) (words : Row) → IsReached lines s → is_plain s.awaited ≡ true
    → AreWords words → first_reason (row_tests (kind_of s.awaited) (seen s) words) ≡ None
    → after_row s.awaited s words ≡ t
    → IsReached (lines ++ spaced words ∷ []) t
reached_row lines s t words h plain w fine e =
    let read = row-spaced words w.few (are_words words w.each) in
    let some : (length words == 0) ≡ false = ne_eqb (length words) 0 (λ z. omega (arith, z, w.some)) in
    let tests : row_line_tests (kind_of s.awaited) (seen s) (row_of (spaced words)) ≡ row_tests (kind_of s.awaited) (seen s) words = rw (read, some) refl in
    let next : after_row_line s.awaited s (row_of (spaced words)) ≡ after_row s.awaited s words = rw (read, some) refl in
    reached_more lines s t (spaced words) h (row-line words w.few w.each)
    (ap first_reason (sym (plain_tests s.awaited (seen s) (spaced words) plain) ∙ tests) ∙ fine)
    (sym (plain_after s.awaited s (spaced words) plain) ∙ next ∙ e)

-- ---- the message

said_count : (lines : List (List ℕ)) → message_count (seen (spoken lines)) ≡ length lines
unfolding spoken sol_of
said_count lines = sym (length-append (without_blank_end lines) (held_lines (ends_blank lines)) ∙ ap (λ n. length (without_blank_end lines) + n) (by (ends_blank lines))) ∙ ap length (held_back lines)
  where
    by : (b : Bool) → length (held_lines b) ≡ cond b 1 0
    by true = refl
    by false = refl

message_fine : (lines : List (List ℕ)) (line : List ℕ) → length lines < 65536 → first_reason (message_tests (seen (spoken lines)) line) ≡ None
unfolding spoken
message_fine lines line lt =
    rw (said_count lines, ne_eqb (length lines) 65537 (λ e. omega (arith, e)), ne_eqb (length lines) 65536 (λ e. omega (arith, e))) refl

empty_fine : (lines : List (List ℕ)) → length lines ≤ 65536 → first_reason (message_tests (seen (spoken lines)) []) ≡ None
unfolding spoken
empty_fine lines le =
    rw (said_count lines, ne_eqb (length lines) 65537 (λ e. omega (arith, e)), and_right ((length lines == 65536) && true) false refl) refl

reached_message : (done more : List (List ℕ)) → IsReached done (spoken done) → AllByRecursion IsSaidLine more → length done + length more ≤ 65536 → IsReached (done ++ more) (spoken (done ++ more))
unfolding line_tests_at spoken
reached_message done [] h all room = subst (λ ls. IsReached ls (spoken ls)) (sym (append-nil done)) h
reached_message done (line ∷ more) h all room =
    let next = reached_more done (spoken done) (spoken (done ++ line ∷ [])) line h all.0.line_of_text (message_fine done line (omega arith)) (spoken_more done line all.0.other) in
    subst (λ ls. IsReached ls (spoken ls)) (append_assoc done (line ∷ []) more) (reached_message (done ++ line ∷ []) more next all.1 (omega (arith, length_push done line)))

no_words : start ≡ spoken []
unfolding spoken sol_of whole_of ends_blank without_blank_end
no_words = refl

-- ---- after the message

abbrev pub at : Awaited → Sol → ℕ → ℕ → ℕ → ℕ → ℕ → Progress
at a sol duals primals suffixes tables values =
    record {
      awaited = a;
      is_held_back = false;
      sol = sol;
      dual_count = duals;
      primal_count = primals;
      suffix_count = suffixes;
      table_count = tables;
      value_count = values;
    }

-- a message alone
abbrev pub only_message : List (List ℕ) → Sol
only_message message = record (empty_sol [] 0 0) { message = message }

options_fine : (lines : List (List ℕ)) → first_reason (message_tests (seen (spoken lines)) (codes "Options")) ≡ None
unfolding spoken
options_fine lines = rw (and_right (message_count (seen (spoken lines)) == 65537) false refl, and_right (message_count (seen (spoken lines)) == 65536) false refl) refl

begun : (message : List (List ℕ)) → after (spoken (message ++ [] ∷ [])) (codes "Options") ≡ at OptionCount (only_message message) 0 0 0 0 0
unfolding after_at spoken sol_of whole_of
begun message = ap (λ (ls : List (List ℕ)). at OptionCount (only_message ls) 0 0 0 0 0) (without_blank_end-more message [])

-- the message, an empty line and `Options`
pub reached_options : (message : List (List ℕ)) → AllByRecursion IsSaidLine message → length message ≤ 65536
    → IsReached (message ++ [] ∷ codes "Options" ∷ []) (at OptionCount (only_message message) 0 0 0 0 0)
unfolding line_tests_at spoken
reached_options message all room =
    let none : start ≡ spoken [] = no_words in
    let said = reached_message [] message (also [] _ _ none reached_none) all (omega arith) in
    let empty = reached_more message (spoken message) (spoken (message ++ [] ∷ [])) [] said (row-line [] (omega arith) tt) (empty_fine message room) (spoken_more message [] refl) in
    subst (λ ls. IsReached ls (at OptionCount (only_message message) 0 0 0 0 0)) (append_assoc message ([] ∷ []) (codes "Options" ∷ []))
    (reached_more (message ++ [] ∷ []) (spoken (message ++ [] ∷ [])) (at OptionCount (only_message message) 0 0 0 0 0)
    (codes "Options") empty (row-line (codes "Options" ∷ []) (omega arith)
    (record { is = record { some = omega arith; bytes = refl }; short = omega arith }, tt))
    (options_fine (message ++ [] ∷ [])) (begun message))
