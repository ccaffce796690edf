-- What a text without a fault says: its header, and its pieces one after the other.
use Rattle.std.proofs.Common.{◌≡◌, ◌∙◌, ℕ, ◌+◌, ◌<◌, ◌≤◌, ◌^◌, Bool, true, false, ℤ, List, [], ◌∷◌, ◌++◌, length}
use Rattle.std.proofs.Common.{get_or, take, drop, refl, sym, ap, subst, arith, Option, Some, None, All, append_assoc}
use Rattle.std.proofs.Common.{length-append}
use Rattle.std.specs.Prelude.{IsSome, IsTrue, option_map, filter, sum_by}
use Rattle.std.specs.List.{list_all, list_any}
use Rattle.std.proofs.lemmas.Bool.{ltb-true, ltb-false, eqb-true, not-false}
use Rattle.std.proofs.lemmas.List.{take_all, take_more, length-take, get_or_append_left}
use Rattle.std.proofs.Math.Seq.{get_or-append_seam}
use Rattle.std.proofs.lemmas.List.Elements.{filter-append}
use Rattle.std.proofs.lemmas.List.Sums.{sum_by-append}
use Rattle.text_base.specs.Judged.{IsClean, first_reason}
use Rattle.text_base.specs.Reading.{last_of as last_line, lines_of}
use Rattle.text_base.specs.Words.{without_comment, words_of}
use Rattle.text_base.proofs.FirstReasons.{none_each}
use Rattle.text_base.proofs.ReadingLemmas.{text_ends}
use Rattle.exact_numbers.specs.Numbers.{has_31_bits}
use Rattle.nl_header.specs.Head.{counts_in, header_line, header_line_fault, number_line_fault, options_in, lacks_number, rule_tests, words_fault}
use Rattle.code_tables.specs.Header.{header_rows}
use Rattle.nl_header.specs.declared.fault.HeadFault.TheVariants.{BadHeaderNumber}
use Rattle.nl_header.specs.declared.fault.HeadFault.{HeadFault}
use Rattle.nl_header.specs.Reading.{AreClean as IsCleanHeader}
use Rattle.nl_header.proofs.HeaderLaw.{AreNineClean, header-rule, else-second}
use Rattle.nl_header.proofs.ReaderLemmas.{clean-more}
use Rattle.nl_model.specs.declared.header_counts.Counts.{Counts}
use Rattle.nl_model.specs.Draft.{Draft}
use Rattle.nl_model.specs.HeaderRules.{are_definitions_within, is_header}
use Rattle.nl_model.specs.Rules.{term_count}
use Rattle.nl_lines.specs.declared.head.Head.{Head}
use Rattle.nl_lines.specs.Rows.{NumberedRow, holds_words, rows_from}
use Rattle.nl_lines.specs.Pieces.{Piece, is_complete, piece_pairs, pieces_of}
use Rattle.nl_lines.specs.Saying.{draft_of}
use Rattle.nl_lines.specs.Tests.{end_tests, is_linear, is_same_piece, pair_total}
use Rattle.nl_segments.specs.Grammar.{Standing, counts_of, end_refusal, is_in_header, line_refusal, nl_rules, reason_of, said, standing}
use Rattle.nl_segments.specs.Held.{IsSoundPiece}
use Rattle.nl_segments.specs.Steps.{after}
use Rattle.nl_segments.proofs.CleanRows.{AreClean, IsRunning}
use Rattle.nl_lines.proofs.DraftLemmas.{draft_counts}
use Rattle.nl_segments.proofs.EndLemmas.{all_given, short_parts}
use Rattle.nl_lines.proofs.FreshLaw.{none_before}
use Rattle.nl_segments.proofs.HeadLaw.{all_complete}
use Rattle.nl_segments.proofs.PairHeld.{never}
use Rattle.nl_segments.proofs.CleanTexts.{all_lines}
use Rattle.nl_segments.proofs.PairLines.{front_apart}
use Rattle.round_trips.proofs.Heads.{no_mark, options_small}
use Rattle.round_trips.proofs.Rows.{AreGood, AreKept, IsGoodPiece, kept_none, kept_row}

-- ---- lines without a fault

record IsKeptStanding (s : Standing) : Type 0 where
  header : IsCleanHeader s.header
  few : length s.header ≤ 10
  none : is_in_header s ≡ true → s.pieces ≡ []
  kept : AreKept (options_in s.header) (counts_of s) s.pieces

start : IsKeptStanding (standing [])
unfolding standing rows_from pieces_of
start = record { header = record { clean = λ i lt. absurd (omega (arith, lt)) }; few = omega arith; none = λ _. refl; kept = kept_none _ _ }

no_header_fault : (o : Option HeadFault) → option_map (λ fault. (reason_of fault)) o ≡ None → o ≡ None
no_header_fault None e = refl
no_header_fault (Some f) e = absurd cc

step : (s : Standing) (n : ℕ) (line : List ℕ) → IsKeptStanding s → line_refusal s line ≡ None → IsKeptStanding (after s n line)
unfolding line_refusal
step s n line h fine = by (holds_words line) (is_in_header s) refl refl
  where
    by : (t u : Bool) → holds_words line ≡ t → is_in_header s ≡ u → IsKeptStanding (after s n line)
    by false u e q = rw e h
    by true true e q =
        let words = words_of (without_comment line) in
        let here : header_line_fault s.header words ≡ None = no_header_fault (header_line_fault s.header words) (rw (e, q) at fine) in
        let less = ltb-true (length s.header) 10 q in
        rw (e, q) (record {
          header = clean-more s.header words h.header here;
          few = omega (arith, less, length-append s.header (words ∷ []));
          none = λ _. h.none q;
          kept = subst (AreKept _ _) (sym (h.none q)) (kept_none _ _);
        })
    by true false e q =
        let row : NumberedRow = record { line = n; text = without_comment line } in
        rw (e, q) (record {
          header = h.header;
          few = h.few;
          none = λ t. absurd (never (sym t ∙ q));
          kept = kept_row (options_in s.header) (counts_of s) s.pieces row (no_mark line 2) h.kept (rw (e, q) at fine);
        })

-- ---- the header

last_rule : (before : List (List (List ℕ))) (words : List (List ℕ)) → length before ≡ 9 → header_line_fault before words ≡ None → are_definitions_within (counts_in (before ++ words ∷ [])) ≡ true
unfolding header_line_fault number_line_fault rule_tests
last_rule before words nine fine =
    let counts = counts_in (before ++ words ∷ []) in
    let tests : List (Bool × HeadFault) = (lacks_number header_rows 10 (length words), BadHeaderNumber) ∷ rule_tests 10 counts in
    let none = none_each tests (else-second (words_fault 10 1 words) (first_reason tests) (rw nine at fine)) in
    not-false (are_definitions_within counts) none.1.1.1.0

header_ruled : (lines : List (List (List ℕ))) → IsCleanHeader lines → length lines ≡ 10 → is_header (options_in lines) (counts_in lines) ≡ true
header_ruled lines h ten =
    let nine : AreNineClean lines = record { many = omega (arith, ten); clean = λ i lt. h.clean i (omega (arith, lt, ten)) } in
    let within : 9 < length lines = omega (arith, ten) in
    let front : length (take 9 lines) ≡ 9 = omega (arith, length-take 9 lines, ten) in
    let all : lines ≡ take 9 lines ++ get_or lines 9 [] ∷ [] = sym (take_all 10 lines (omega (arith, ten))) ∙ take_more lines 9 [] within in
    header-rule lines nine ∙ ap (λ ls. are_definitions_within (counts_in ls)) all ∙ last_rule (take 9 lines) (get_or lines 9 []) front (h.clean 9 within)

options_few : (lines : List (List (List ℕ))) → list_all has_31_bits (options_in lines) ≡ true
unfolding options_in
options_few lines = options_small (drop 1 (header_line lines 1))

-- ---- the pieces one after the other

pub record IsStep (o : List ℤ) (c : Counts) (before : List Piece) (p : Piece) : Type 0 where
  pub earlier : All (λ q. is_complete c q ≡ true) before
  pub complete : is_complete c p ≡ true
  pub sound : IsSoundPiece c p
  pub running : IsRunning c p
  pub good : IsGoodPiece o c before p
  pub fresh : list_any (is_same_piece p.head p.name) before ≡ false
  pub few : pair_total is_linear (before ++ p ∷ []) ≤ 2 ^ 22

abbrev pub AreSteps : List ℤ → Counts → List Piece → List Piece → Type 0
AreSteps o c before [] = Unit {0}
AreSteps o c before (p ∷ pieces) = IsStep o c before p × AreSteps o c (before ++ p ∷ []) pieces

all_front : {X : Type 0} (P : X → Type 0) (xs ys : List X) → All P (xs ++ ys) → All P xs
all_front P xs ys h k d lt = subst P (get_or_append_left xs ys d k lt) (h k d (omega (arith, lt, length-append xs ys)))

all_at : {X : Type 0} (P : X → Type 0) (xs : List X) (x : X) (ys : List X) → All P (xs ++ x ∷ ys) → P x
all_at P xs x ys h = subst P (get_or-append_seam xs x ys x) (h (length xs) x (omega (arith, length-append xs (x ∷ ys))))

pub total_up : (counts : Head → Bool) (xs ys : List Piece) → pair_total counts xs ≤ pair_total counts (xs ++ ys)
total_up counts xs ys =
    let size : Piece → ℕ = λ p. length (piece_pairs p) in
    let kept : List Piece → List Piece = filter (λ p. counts p.head) in
    let both : pair_total counts (xs ++ ys) ≡ pair_total counts xs + pair_total counts ys = ap (sum_by size) (filter-append (λ p. counts p.head) xs ys) ∙ sum_by-append size (kept xs) (kept ys) in
    omega (arith, both)

-- of all pieces of a text
record AreWhole (c : Counts) (pieces : List Piece) : Type 0 where
  clean : AreClean c pieces
  complete : All (λ q. is_complete c q ≡ true) pieces
  few : pair_total is_linear pieces ≤ 2 ^ 22

steps : (o : List ℤ) (c : Counts) (before rest : List Piece) → AreWhole c (before ++ rest) → AreGood o c before rest → AreSteps o c before rest
steps o c before [] h good = tt
steps o c before (p ∷ rest) h good =
    let now = before ++ p ∷ [] in
    let next = subst (AreWhole c) (sym (append_assoc before (p ∷ []) rest)) h in (
      record {
        earlier = all_front (λ q. is_complete c q ≡ true) before (p ∷ rest) h.complete;
        complete = all_at (λ q. is_complete c q ≡ true) before p rest h.complete;
        sound = all_at (IsSoundPiece c) before p rest h.clean.sound.each;
        running = all_at (IsRunning c) before p rest h.clean.running;
        good = good.0;
        fresh = none_before before p (front_apart now rest next.clean.sound.apart);
        few = omega (arith, next.few, total_up is_linear now rest);
      },
      steps o c now rest next good.1,
    )

-- ---- what the whole text means

pub record IsWhole (o : List ℤ) (c : Counts) (pieces : List Piece) (d : Draft) : Type 0 where
  pub ruled : IsTrue (is_header o c)
  pub options : list_all has_31_bits o ≡ true
  pub steps_are : AreSteps o c [] pieces
  pub kept : AreKept o c pieces
  pub objectives : All IsSome d.objectives
  pub sides : c.n_con ≤ length d.sides
  pub bounds : c.n_var ≤ length d.bounds
  pub nonzeros : term_count d.terms ≡ c.nzc

whole_by : (s : Standing) → IsKeptStanding s → end_refusal s ≡ None → IsWhole (options_in s.header) (counts_of s) s.pieces (said s)
unfolding end_refusal end_tests
whole_by s h e = by (is_in_header s) refl
  where
    o : List ℤ
    o = options_in s.header

    c : Counts
    c = counts_of s

    by : (t : Bool) → is_in_header s ≡ t → IsWhole (options_in s.header) (counts_of s) s.pieces (said s)
    by true q = absurd (let some = rw q at e in cc)
    by false q =
        let none = none_each (end_tests c (said s) s.pieces) (rw q at e) in
        let ten : length s.header ≡ 10 = omega (arith, h.few, ltb-false (length s.header) 10 q) in
        let complete = all_complete c s.pieces h.kept.clean.sound (not-false _ none.0) in
        let short = short_parts (said s) none.1.0 in
        let counts = draft_counts o c s.pieces in
        record {
          ruled = header_ruled s.header h.header ten;
          options = options_few s.header;
          steps_are = steps o c [] s.pieces (record { clean = h.kept.clean; complete = complete; few = h.kept.few.linear }) h.kept.good;
          kept = h.kept;
          objectives = all_given (said s).objectives short.0;
          sides = subst (λ k. k.n_con ≤ length (draft_of o c s.pieces).sides) counts (ltb-false (length (said s).sides) (said s).counts.n_con short.1);
          bounds = subst (λ k. k.n_var ≤ length (draft_of o c s.pieces).bounds) counts (ltb-false (length (said s).bounds) (said s).counts.n_var short.2);
          nonzeros = eqb-true (term_count (said s).terms) c.nzc (not-false _ none.1.1.0);
        }

pub whole_text : (text : List ℕ) → IsClean nl_rules (lines_of text) (last_line text)
    → IsWhole (options_in (standing (lines_of text)).header) (counts_of (standing (lines_of text)))
    (standing (lines_of text)).pieces (said (standing (lines_of text)))
whole_text text c =
    let lines = lines_of text in
    whole_by (standing lines) (all_lines IsKeptStanding lines (last_line text) (λ s n line more most h fine. step s n line h fine) start c) (text_ends nl_rules text c)
