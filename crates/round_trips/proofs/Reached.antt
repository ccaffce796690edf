-- Lines without faults, and what they mean for the next one; the lines of a header.
use Rattle.std.proofs.Common.{◌≡◌, ◌∙◌, ℕ, ◌+◌, false, List, [], ◌∷◌, ◌++◌, length, map, refl, sym, ap, subst, arith, None, length-append, append_assoc, append-nil, ◌<◌, ◌≤◌}
use Rattle.std.specs.List.{AllByRecursion}
use Rattle.text_base.specs.Judged.{Open, End, IsClean, first_reason}
use Rattle.text_base.proofs.JudgedLemmas.{clean_none, clean_last, clean_more}
use Rattle.nl_header.specs.Head.{options_in, counts_in, header_line_fault}
use Rattle.nl_lines.specs.Pieces.{Piece, with_row, pieces_of}
use Rattle.nl_lines.specs.Saying.{draft_of}
use Rattle.nl_lines.specs.Tests.{row_tests}
use Rattle.nl_segments.specs.Grammar.{Standing, standing, line_refusal, end_refusal, is_in_header, nl_rules}
use Rattle.nl_segments.specs.Steps.{after as after_line}
use Rattle.nl_segments.proofs.StandingLemmas.{standing-more}
use Rattle.text_base.specs.WordLines.{WordLine, spaced}
use Rattle.written_texts.specs.Words.{IsWritten}
use Rattle.written_texts.proofs.WordLemmas.{kept-spaced, some-written, row-written, are_words, words-spaced}
use Rattle.round_trips.specs.InsideTaking.{row_at, IsTaken, taken_line, taken_none}
use Rattle.std.proofs.lemmas.Bool.{lt-ltb}
use Rattle.std.proofs.lemmas.List.{map-append}
use Rattle.nl_lines.specs.Rows.{rows_from}

-- the lines have no fault, and mean this
pub record IsReached (lines : List (List ℕ)) (s : Standing) : Type 0 where
  pub clean : IsClean nl_rules lines Open
  pub here : standing lines ≡ s

pub reached_none : IsReached [] (standing [])
reached_none = record { clean = clean_none nl_rules; here = refl }

pub reached_more : (lines : List (List ℕ)) (s t : Standing) (line : List ℕ) → IsReached lines s
    → line_refusal s line ≡ None → after_line s (length lines + 1) line ≡ t → IsReached (lines ++ line ∷ []) t
reached_more lines s t line h e next = record {
  clean = clean_more nl_rules lines line h.clean (ap (λ s. line_refusal s line) h.here ∙ e);
  here = standing-more lines line ∙ ap (λ s. after_line s (length lines + 1) line) h.here ∙ next;
}

pub reached_end : (lines : List (List ℕ)) (s : Standing) → IsReached lines s → end_refusal s ≡ None → IsClean nl_rules lines End
reached_end lines s h e = clean_last nl_rules lines End h.clean (ap end_refusal h.here ∙ e)

-- ---- written lines of the body

abbrev pub in_body : List (List (List ℕ)) → List Piece → Standing
in_body header pieces = record { header = header; pieces = pieces }

line_fine : (header : List (List (List ℕ))) (pieces : List Piece) (words : WordLine) → is_in_header (in_body header pieces) ≡ false → IsWritten words
    → first_reason (row_tests (counts_in header) (draft_of (options_in header) (counts_in header) pieces) pieces words) ≡ None → line_refusal (in_body header pieces) (spaced words) ≡ None
unfolding line_refusal
line_fine header pieces words body w fine = rw (some-written words w, kept-spaced words w.each, body, row-written words w) fine

line_after : (header : List (List (List ℕ))) (pieces : List Piece) (n : ℕ) (words : WordLine) → is_in_header (in_body header pieces) ≡ false → IsWritten words
    → after_line (in_body header pieces) n (spaced words) ≡ in_body header (with_row (counts_in header) pieces (row_at n words))
line_after header pieces n words body w = rw (some-written words w, kept-spaced words w.each, body) refl

pub body_reached : (header : List (List (List ℕ))) (pieces : List Piece) {after : List Piece} (lines : List (List ℕ))
    (n : ℕ) (body : List WordLine) → ((ps : List Piece) → is_in_header (in_body header ps) ≡ false)
    → n ≡ length lines + 1 → IsTaken (options_in header) (counts_in header) pieces n body after → IsReached lines (in_body header pieces) → IsReached (lines ++ map spaced body) (in_body header after)
body_reached header pieces lines n [] past e taken_none h = subst (λ ls. IsReached ls (in_body header pieces)) (sym (append-nil lines)) h
body_reached header pieces {after = after} lines n (words ∷ body) past e (taken_line w f t) h =
    let next = with_row (counts_in header) pieces (row_at n words) in
    let now = reached_more lines (in_body header pieces) (in_body header next) (spaced words) h (line_fine header pieces words (past pieces) w f)
    (ap (λ k. after_line (in_body header pieces) k (spaced words)) (sym e) ∙ line_after header pieces n words (past pieces) w) in
    let count : n + 1 ≡ length (lines ++ spaced words ∷ []) + 1 = omega (arith, length-append lines (spaced words ∷ []), e) in
    let more = body_reached header next (lines ++ spaced words ∷ []) (n + 1) body past count t now in
    subst (λ ls. IsReached ls (in_body header after)) (append_assoc lines (spaced words ∷ []) (map spaced body)) more

-- ---- the header

-- each line may come after those before it
abbrev pub AreHeadFine : List WordLine → List WordLine → Type 0
AreHeadFine before [] = Unit {0}
AreHeadFine before (words ∷ lines) = (header_line_fault before words ≡ None) × AreHeadFine (before ++ words ∷ []) lines

head_line_fine : (before : List WordLine) (words : WordLine) → length before < 10 → IsWritten words → header_line_fault before words ≡ None → line_refusal (in_body before []) (spaced words) ≡ None
unfolding line_refusal
head_line_fine before words few w fine = rw (some-written words w, kept-spaced words w.each, lt-ltb (length before) 10 few, words-spaced words (are_words words w.each), fine) refl

head_line_after : (before : List WordLine) (words : WordLine) (n : ℕ) → length before < 10 → IsWritten words → after_line (in_body before []) n (spaced words) ≡ in_body (before ++ words ∷ []) []
head_line_after before words n few w = rw (some-written words w, kept-spaced words w.each, lt-ltb (length before) 10 few, words-spaced words (are_words words w.each)) refl

nothing_read : standing [] ≡ in_body [] []
unfolding standing rows_from pieces_of
nothing_read = refl

pub head_reached : (before lines : List WordLine) → length before + length lines ≤ 10 → AllByRecursion IsWritten lines
    → AreHeadFine before lines → IsReached (map spaced before) (in_body before [])
    → IsReached (map spaced (before ++ lines)) (in_body (before ++ lines) [])
head_reached before [] few w fine h = subst (λ ls. IsReached (map spaced ls) (in_body ls [])) (sym (append-nil before)) h
head_reached before (words ∷ lines) few w fine h =
    let next = before ++ words ∷ [] in
    let one = reached_more (map spaced before) (in_body before []) (in_body next []) (spaced words) h
    (head_line_fine before words (omega arith) w.0 fine.0)
    (head_line_after before words (length (map spaced before) + 1) (omega arith) w.0) in
    let now : IsReached (map spaced next) (in_body next []) = subst (λ ls. IsReached ls (in_body next [])) (sym (map-append spaced before (words ∷ []))) one in
    let more = head_reached next lines (omega (arith, few, length-append before (words ∷ []))) w.1 fine.1 now in
    subst (λ ls. IsReached (map spaced ls) (in_body ls [])) (append_assoc before (words ∷ []) lines) more

pub header_reached : (lines : List WordLine) → length lines ≤ 10 → AllByRecursion IsWritten lines → AreHeadFine [] lines → IsReached (map spaced lines) (in_body lines [])
header_reached lines few w fine = head_reached [] lines (omega (arith, few)) w fine (subst (IsReached []) nothing_read reached_none)
