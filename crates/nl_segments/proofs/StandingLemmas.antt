-- What a line more does to what lines mean and to the whole reader, and what it answers; terms that are taken at once.
use Rattle.std.proofs.Common.{◌≡◌, ◌∙◌, ℕ, ◌+◌, ◌<◌, ◌≤◌, Bool, true, false, if◌then◌else◌, List, [], ◌∷◌, ◌++◌, length}
use Rattle.std.proofs.Common.{take, drop, map, refl, sym, ap, ap₂, arith, nat_lt, not, ◌==◌, Bor, subst, suc, Some}
use Rattle.std.proofs.Common.{None, Option, append-nil, length-append, ◌-◌, get_or, zero, append_assoc, ◌&&◌, slice_set}
use Rattle.std.proofs.lemmas.Bool.{ltb-true, ltb-false, lt-ltb, lt-leb}
use Rattle.std.proofs.lemmas.List.{length-map, length-take-le, map-append, take-append-le, take_all, drop_all, drop-append-le}
use Rattle.std.proofs.lemmas.List.Sums.{fold-append}
use Rattle.text_base.specs.Words.{words_of, without_comment, row_of, texts}
use Rattle.nl_header.specs.Head.{counts_in}
use Rattle.nl_lines.specs.Rows.{NumberedRow, holds_words, rows_from, rows_of, header_words}
use Rattle.nl_lines.specs.Pieces.{with_row, pieces_of, is_nothing, keeps_pairs, line_kind}
use Rattle.nl_segments.specs.Grammar.{Standing, standing, is_in_header, line_refusal, end_refusal, reason_of, nl_rules, SaysFile}
use Rattle.nl_segments.specs.Steps.{after, after_row}
use Rattle.std.specs.Prelude.{Result, Ok, Err, IfErr, IfOk, IsSomeAnd}
use Rattle.text_base.specs.Stopped.{IfFault}
use Rattle.text_base.specs.declared.stop.Stop.{Stop}
use Rattle.text_base.specs.declared.stop.Stop.TheVariants.{Fault, Memory}
use Rattle.nl_header.specs.declared.fault.HeadFault.{HeadFault}
use Rattle.nl_header.specs.Reading.{Taken, IsReading, Takes as TakesRowOfHeader}
use Rattle.nl_model.specs.declared.header.Header.{Header}
use Rattle.nl_lines.specs.declared.fault.NlReason.{NlReason}
use Rattle.nl_lines.specs.declared.fault.NlReason.TheVariants.{EndInHeader}
use Rattle.nl_segments.specs.declared.nl_read.NlRead.{NlRead}
use Rattle.nl_segments.specs.Held.{Body, Progress, in_header, in_body, IsHeld, IsHeaderOf, only_header, HoldsStanding, TakesRow, Finishes, HoldsSome}
use Rattle.nl_segments.specs.InsideTaking.{Takes, TakesBodyLine, TakesLine}
use Rattle.nl_lines.proofs.PieceLemmas.{some_are}
use Rattle.text_base.specs.declared.fault.TextFault.{TextFault}
use Rattle.text_base.specs.Reading.{HasFaultSoFar, Reads}
use Rattle.nl_lines.specs.declared.fault.NlFault.{NlFault}
use Rattle.nl_segments.specs.Reader.{stop_of, ReadsNl, HasNlFaultSoFar, value_of}
use Rattle.std.specs.List.{range_with_len}
use Rattle.nl_lines.proofs.RunLemmas.{range_parts}
use Rattle.text_base.specs.Fronts.{IsFront, TakesFront}
use Rattle.text_base.specs.Judged.{Open, IsClean, first_reason}
use Rattle.text_base.specs.declared.grammar.Front.{Front}
use Rattle.text_base.proofs.FrontLemmas.{front_joined}
use Rattle.text_base.proofs.JudgedLemmas.{clean_more}
use Rattle.nl_model.specs.declared.header_counts.Counts.{Counts}
use Rattle.nl_model.specs.Draft.{Draft}
use Rattle.nl_model.specs.File.{Term}
use Rattle.nl_model.specs.Rules.{most_terms}
use Rattle.nl_lines.specs.declared.awaited.Awaited.TheVariants.{Pair}
use Rattle.nl_lines.specs.declared.head.Head.{Head}
use Rattle.nl_lines.specs.declared.head.Head.TheVariants.{Definition, DualGuesses, Terms, Slopes}
use Rattle.nl_lines.specs.declared.pair_line.FirstPair.{FirstPair}
use Rattle.nl_lines.specs.FirstPairs.{IsFirstPair}
use Rattle.nl_lines.specs.FirstRows.{IsFirstRow}
use Rattle.nl_lines.specs.PairTests.{IsPairRow, is_full_at, known_pair_tests, next_pair_tests}
use Rattle.nl_lines.specs.Saying.{OwnerLines, PlaceLines, changed}
use Rattle.nl_lines.specs.Tests.{holds_once, index_limit, is_linear, is_suffix, wants_whole_values}
use Rattle.nl_lines.proofs.PairRows.{pair_plain, same_known}
use Rattle.nl_segments.specs.Current.{Current, current_awaits, less_line, less_lines}
use Rattle.nl_segments.specs.InsideLineSteps.{unless_complete}
use Rattle.nl_segments.specs.InsidePairSteps.{one_more, with_given, with_kept, with_use}
use Rattle.nl_segments.specs.InsidePlaceSteps.{more_term_run, more_terms, terms_follow, with_term_line, with_term_run}
use Rattle.nl_segments.specs.InsideTermRuns.{AwaitsTerms, GoesOn, HasBodyOf, IsBodyOf, TakesLines, with_counted, with_parts}
use Rattle.nl_segments.proofs.PairPiece.{CanTake, IsRead, can_take, IsPairDone, pair_step, not_closed}

-- ---- rows

-- the rows of one line
abbrev row_list : ℕ → List ℕ → List NumberedRow
row_list n line = if holds_words line then record { line = n; text = without_comment line } ∷ [] else []

rows_from-more : (n : ℕ) (lines : List (List ℕ)) (line : List ℕ) → rows_from n (lines ++ line ∷ []) ≡ rows_from n lines ++ row_list (length lines + n) line
unfolding rows_from
rows_from-more n [] line = by (holds_words line) refl
  where
    by : (b : Bool) → holds_words line ≡ b → rows_from n (line ∷ []) ≡ row_list (0 + n) line
    by true e = rw e (ap (λ k. record { line = k; text = without_comment line } ∷ []) (omega arith))
    by false e = rw e refl
rows_from-more n (l ∷ lines) line = by (holds_words l) refl (rows_from-more (n + 1) lines line)
  where
    by : (b : Bool) → holds_words l ≡ b → rows_from (n + 1) (lines ++ line ∷ []) ≡ rows_from (n + 1) lines ++ row_list (length lines + (n + 1)) line
        → rows_from n ((l ∷ lines) ++ line ∷ []) ≡ rows_from n (l ∷ lines) ++ row_list (length (l ∷ lines) + n) line
    by true e more = rw e (ap (λ rs. record { line = n; text = without_comment l } ∷ rs) (more ∙ ap (λ k. rows_from (n + 1) lines ++ row_list k line) (omega arith)))
    by false e more = rw e (more ∙ ap (λ k. rows_from (n + 1) lines ++ row_list k line) (omega arith))

-- ---- the standing by rows

abbrev standing_by : List NumberedRow → Standing
standing_by rows = record { header = header_words rows; pieces = pieces_of (counts_in (header_words rows)) (drop 10 rows) }

same_standing : (a b : Standing) → a.header ≡ b.header → a.pieces ≡ b.pieces → a ≡ b
same_standing a b p q = λ i. record { header = p i; pieces = q i }

few_in_header : (rows : List NumberedRow) → length rows < 10 → is_in_header (standing_by rows) ≡ true
few_in_header rows few =
    lt-ltb _ _ (omega (arith, length-map (take 10 rows) (λ r. words_of r.text), ap (length {A = NumberedRow}) (take_all 10 rows (omega arith))))

after_header : (rows : List NumberedRow) → 10 ≤ length rows → is_in_header (standing_by rows) ≡ false
after_header rows many = rw (length-map (take 10 rows) (λ r. words_of r.text), length-take-le 10 rows many) refl

short_row : (rows : List NumberedRow) (row : NumberedRow) → length rows < 10 → standing_by (rows ++ row ∷ []) ≡ after_row (standing_by rows) row
unfolding pieces_of
short_row rows row few =
    let whole : take 10 rows ≡ rows = take_all 10 rows (omega arith) in
    let longer : take 10 (rows ++ row ∷ []) ≡ rows ++ row ∷ [] = take_all 10 (rows ++ row ∷ []) (omega (arith, length-append rows (row ∷ []))) in
    let none : drop 10 rows ≡ [] = drop_all 10 rows (omega arith) in
    let still : drop 10 (rows ++ row ∷ []) ≡ [] = drop_all 10 (rows ++ row ∷ []) (omega (arith, length-append rows (row ∷ []))) in
    rw (few_in_header rows few) (same_standing _ _
    (ap (map (λ r. words_of r.text)) longer ∙ map-append (λ r. words_of r.text) rows (row ∷ []) ∙ ap (λ rs. map (λ r. words_of r.text) rs ++ words_of row.text ∷ []) (sym whole))
    (ap (pieces_of (counts_in (header_words (rows ++ row ∷ [])))) still ∙ sym (ap (pieces_of (counts_in (header_words rows))) none)))

long_row : (rows : List NumberedRow) (row : NumberedRow) → 10 ≤ length rows → standing_by (rows ++ row ∷ []) ≡ after_row (standing_by rows) row
unfolding pieces_of
long_row rows row many =
    let same : take 10 (rows ++ row ∷ []) ≡ take 10 rows = take-append-le 10 rows (row ∷ []) many in
    let more : drop 10 (rows ++ row ∷ []) ≡ drop 10 rows ++ row ∷ [] = drop-append-le 10 rows (row ∷ []) many in
    rw (after_header rows many) (same_standing _ _
    (ap (map (λ r. words_of r.text)) same)
    (ap₂ (λ ts rs. pieces_of (counts_in (map (λ r. words_of r.text) ts)) rs) same more ∙ fold-append (with_row (counts_in (header_words rows))) [] (drop 10 rows) (row ∷ [])))

row_more : (rows : List NumberedRow) (row : NumberedRow) → standing_by (rows ++ row ∷ []) ≡ after_row (standing_by rows) row
row_more rows row = by (nat_lt (length rows) 10) refl
  where
    by : (b : Bool) → nat_lt (length rows) 10 ≡ b → standing_by (rows ++ row ∷ []) ≡ after_row (standing_by rows) row
    by true e = short_row rows row (ltb-true _ _ e)
    by false e = long_row rows row (ltb-false _ _ e)

-- ---- a line more

pub standing-more : (lines : List (List ℕ)) (line : List ℕ) → standing (lines ++ line ∷ []) ≡ after (standing lines) (length lines + 1) line
unfolding standing
standing-more lines line = by (holds_words line) refl
  where
    by : (b : Bool) → holds_words line ≡ b → standing_by (rows_of (lines ++ line ∷ [])) ≡ after (standing_by (rows_of lines)) (length lines + 1) line
    by true e = ap standing_by (rows_from-more 1 lines line) ∙ rw e (row_more (rows_of lines) (record { line = length lines + 1; text = without_comment line }))
    by false e = ap standing_by (rows_from-more 1 lines line) ∙ rw e (ap standing_by (append-nil (rows_of lines)))

-- ---- lines that hold words

row_begins : (words : List (List ℕ)) → not (length (take 12 words) == 0) ≡ not (length words == 0)
row_begins [] = refl
row_begins (word ∷ words) = cc (some_are (length (take 11 words)), some_are (length words))

pub row_holds_words : (line text : List ℕ) (words : List (Bor (List ℕ))) → text ≡ without_comment line → texts words ≡ row_of text → holds_words line ≡ not (length words == 0)
row_holds_words line text words e w =
    sym (ap (λ n. not (n == 0)) (sym (length-map words (λ x. x.now)) ∙ ap (length {A = List ℕ}) w)
    ∙ row_begins (words_of text) ∙ ap (λ t. not (length (words_of t) == 0)) e)

pub words_held : (line : List ℕ) (k : ℕ) → length (row_of (without_comment line)) ≡ suc k → holds_words line ≡ true
words_held line k e = sym (row_begins (words_of (without_comment line))) ∙ ap (λ n. not (n == 0)) e ∙ ap not (some_are k)

-- ---- a line

pub no_row : (held : Standing → Type 0) (line : List ℕ) (n : ℕ) → holds_words line ≡ false → Takes held line n (Ok tt) held
unfolding line_refusal
no_row held line n none = λ s h. (rw none refl, rw none h)

-- a row of the body
pub some_row : (old new : Body) (line : List ℕ) (n : ℕ) (r : Result (Unit {0}) (Stop NlReason))
    → holds_words line ≡ true → TakesRow old (row_of (without_comment line)) n r new → TakesBodyLine old line n r new
unfolding line_refusal
some_row old new line n (Ok u) some takes = λ s h. rw (some, h.body) (takes s (record { line = n; text = without_comment line }) (record { same_words = refl; same_line = refl }) h)
some_row old new line n (Err (Fault f)) some takes = λ s h. rw (some, h.body) (takes s h)
some_row old new line n (Err Memory) some takes = tt

-- a row of the header, one that is not the last, the last one, and one with a fault
module _ (old : Taken) (line : List ℕ) (n : ℕ) (some : holds_words line ≡ true) where
  abbrev Next : Result (Option Header) HeadFault → Taken → Type 0
  Next r new = (before : List (List (List ℕ))) → IsReading old before → TakesRowOfHeader before (words_of (without_comment line)) r new

  pub header_row : (new : Taken) → Next (Ok None) new → new.lines < 10 → TakesLine (in_header old) line n (Ok tt) (in_header new)
  unfolding line_refusal
  header_row new takes few = λ s h.
      let goes = takes s.header h.2 in
      let more : is_in_header (record { header = s.header ++ words_of (without_comment line) ∷ []; pieces = s.pieces }) ≡ true = lt-ltb _ _ (omega (arith, few, goes.reading.count)) in
      rw (some, h.0) (rw goes.clean refl, (more, h.1, goes.reading))

  pub header_last : (header : Header) (new : Taken) (b : Body) → Next (Ok (Some header)) new
      → ((rows : List (List (List ℕ))) → IsHeaderOf rows header.options header.counts → IsHeld (only_header rows) b)
      → TakesLine (in_header old) line n (Ok tt) (in_body b)
  unfolding line_refusal
  header_last header new b takes begun = λ s h.
      let ends = takes s.header h.2 in
      rw (some, h.0) (
        (rw ends.clean refl),
        rw h.1 (begun (s.header ++ words_of (without_comment line) ∷ [])
            (record {
              whole = rw ends.says.count refl;
              same_options = sym ends.says.options;
              same_counts =
                  sym ends.says.counts;
            })),
      )

  pub header_refused : (fault : HeadFault) (new : Taken) → Next (Err fault) new → TakesLine (in_header old) line n (Err (Fault (reason_of fault))) (in_header new)
  unfolding line_refusal
  header_refused fault new takes = λ s h. rw (some, h.0, takes s.header h.2) refl

-- after so many lines
pub line_taken : (old new : Progress) (line : List ℕ) (n : ℕ) → TakesLine old line n (Ok tt) new → (lines : List (List ℕ)) → n ≡ length lines + 1 → HoldsStanding (standing lines) old
    → HoldsStanding (standing (lines ++ line ∷ [])) new
line_taken old new line n takes lines e h = subst (λ s. HoldsStanding s new) (ap (λ k. after (standing lines) k line) e ∙ sym (standing-more lines line)) (takes (standing lines) h).1

-- ---- the end

pub end_in_header : (t : Taken) (g : Progress) → in_header t ≡ g → (s : Standing) → HoldsStanding s g → end_refusal s ≡ Some EndInHeader
unfolding end_refusal
end_in_header t g same s h =
    let held : HoldsStanding s (in_header t) = subst (HoldsStanding s) (sym same) h in
    rw held.0 refl

pub end_fine : (b : Body) (g : Progress) → in_body b ≡ g → (r : Result NlRead (Stop NlReason)) → Finishes b r
    → IfOk r (λ value. (lines : List (List ℕ)) → HoldsStanding (standing lines) g → end_refusal (standing lines) ≡ None)
unfolding end_refusal
end_fine b g same (Ok value) finishes = λ lines h.
    let held : IsHeld (standing lines) b = subst (HoldsStanding (standing lines)) (sym same) h in
    rw held.body (finishes (standing lines) held).0
end_fine b g same (Err stop) finishes = tt

pub end_fault : (b : Body) (g : Progress) → in_body b ≡ g → (r : Result NlRead (Stop NlReason)) → Finishes b r
    → IfErr r (λ stop. IfFault stop (λ reason. (lines : List (List ℕ)) → HoldsStanding (standing lines) g → end_refusal (standing lines) ≡ Some reason))
unfolding end_refusal
end_fault b g same (Err (Fault f)) finishes = λ lines h.
    let held : IsHeld (standing lines) b = subst (HoldsStanding (standing lines)) (sym same) h in
    rw held.body (finishes (standing lines) held)
end_fault b g same r finishes = tt

pub holds_start : (t : Taken) → IsReading t [] → HoldsStanding (standing []) (in_header t)
unfolding standing rows_from pieces_of
holds_start t reading = (refl, refl, reading)

-- what is known of the stop with which a text was fed is known of the one that is answered
fault_so_far : (P Q : List ℕ → Type 0) (more : List ℕ → List ℕ) → ((text : List ℕ) → Q text → P text) → (stop : Stop (TextFault NlReason))
    → IfFault stop (λ fault. (text : List ℕ) → P text → HasFaultSoFar nl_rules (more text) fault)
    → IfFault (stop_of stop) (λ fault. (text : List ℕ) → Q text → HasNlFaultSoFar (more text) fault)
fault_so_far P Q more within (Fault f) h = λ text q. record { first = h text (within text q); opcode = refl }
fault_so_far P Q more within Memory h = tt

pub answered_so_far : (P Q : List ℕ → Type 0) (more : List ℕ → List ℕ) → ((text : List ℕ) → Q text → P text) → (stop : Stop (TextFault NlReason)) (answer : Stop NlFault) → answer ≡ stop_of stop
    → IfFault stop (λ fault. (text : List ℕ) → P text → HasFaultSoFar nl_rules (more text) fault)
    → IfFault answer (λ fault. (text : List ℕ) → Q text → HasNlFaultSoFar (more text) fault)
answered_so_far P Q more within stop answer e h = rw e (fault_so_far P Q more within stop h)

-- and of one that is answered at the end
pub answered : (text : List ℕ) (stop : Stop (TextFault NlReason)) (answer : Stop NlFault) → answer ≡ stop_of stop
    → Reads nl_rules (λ lines r. SaysFile lines (value_of r)) text (Err stop)
    → ReadsNl text (Err answer)
answered text (Fault f) answer e h = rw e (record { first = h; opcode = refl })
answered text Memory answer e h = rw e tt

-- ---- lines after one another

goes_joined : (s : Standing) (number next : ℕ) (xs ys : List (List ℕ)) (mid new : Body) → GoesOn s number xs mid
    → next ≡ number + length xs → ((s : Standing) → IsHeld s mid → GoesOn s next ys new) → GoesOn s number (xs ++ ys) new
goes_joined s number next [] ys mid new g e more =
    let same : next ≡ number = omega (arith, e) in
    subst (λ n. GoesOn s n ys new) same (more s g)
goes_joined s number next (x ∷ xs) ys mid new g e more = (g.0, goes_joined (after s number x) (number + 1) next xs ys mid new g.1 (omega (arith, e)) more)

-- lines that are taken after others
pub goes_on : (old mid new : Body) (piece rest : List ℕ) (number : ℕ) (f g : Front) → TakesLines old piece number f mid → rest ≡ drop f.len piece → TakesLines mid rest (number + f.lines) g new
    → TakesLines old piece number (record { len = f.len + g.len; lines = f.lines + g.lines }) new
goes_on old mid new piece rest number f g h is k = record {
  lines = h.lines ++ k.lines;
  is = front_joined piece f g h.lines k.lines h.is (subst (λ bs. IsFront bs g k.lines) is k.is);
  goes = λ s held. goes_joined s number (number + f.lines) h.lines k.lines mid new (h.goes s held) (ap (λ (n : ℕ). number + n) h.is.count) k.goes;
}

-- a row that the text begins with
pub row_first : (old new : Body) (piece : List ℕ) (number len : ℕ) (says : List (List ℕ) → Type 0)
    → IsFirstRow piece len says → ((words : List (List ℕ)) → says words → (more : ℕ) × (length words ≡ suc more))
    → ((words : List (List ℕ)) → says words → TakesRow old words number (Ok tt) new) → TakesLines old piece number (record { len = len; lines = 1 }) new
row_first old new piece number len says r counted step =
    let some = counted (row_of (without_comment r.line)) r.row in
    record {
      lines = r.line ∷ [];
      is = r.first;
      goes = some_row old new r.line number (Ok tt) (words_held r.line some.0 some.1) (step (row_of (without_comment r.line)) r.row);
    }

goes_some : (s : Standing) (number : ℕ) (lines : List (List ℕ)) (b : Body) → GoesOn s number lines b → HoldsSome b
goes_some s number [] b g = (s, g)
goes_some s number (line ∷ lines) b g = goes_some (after s number line) (number + 1) lines b g.1

pub still_some : (old new : Body) (piece : List ℕ) (number : ℕ) (front : Front) → TakesLines old piece number front new → HoldsSome old → HoldsSome new
still_some old new piece number front h held = goes_some held.0 number h.lines new (h.goes held.0 held.1)

goes_standing : (before lines : List (List ℕ)) (number : ℕ) (b : Body) → number ≡ length before + 1 → GoesOn (standing before) number lines b
    → IsHeld (standing (before ++ lines)) b × (IsClean nl_rules before Open → IsClean nl_rules (before ++ lines) Open)
goes_standing before [] number b e g = (subst (λ ls. IsHeld (standing ls) b) (sym (append-nil before)) g, λ c. subst (λ ls. IsClean nl_rules ls Open) (sym (append-nil before)) c)
goes_standing before (line ∷ lines) number b e g =
    let next : number + 1 ≡ length (before ++ line ∷ []) + 1 = omega (arith, e, length-append before (line ∷ [])) in
    let now : after (standing before) number line ≡ standing (before ++ line ∷ []) = ap (λ n. after (standing before) n line) e ∙ sym (standing-more before line) in
    let more = goes_standing (before ++ line ∷ []) lines (number + 1) b next (subst (λ s. GoesOn s (number + 1) lines b) now g.1) in
    let whole : (before ++ line ∷ []) ++ lines ≡ before ++ line ∷ lines = append_assoc before (line ∷ []) lines in
    (subst (λ ls. IsHeld (standing ls) b) whole more.0, λ c. subst (λ ls. IsClean nl_rules ls Open) whole (more.1 (clean_more nl_rules before line c g.0)))

pub front_taken : (old new : Body) (piece : List ℕ) (number : ℕ) (front : Front) → TakesLines old piece number front new
    → TakesFront nl_rules (λ lines. IsHeld (standing lines) old) (λ lines. IsHeld (standing lines) new) piece number front
front_taken old new piece number front h = record {
  lines = h.lines;
  is = h.is;
  taken = λ before e held. (goes_standing before h.lines number new e (h.goes (standing before) held)).0;
  clean = λ before e held clean. (goes_standing before h.lines number new e (h.goes (standing before) held)).1 clean;
}

pub none_taken : (b : Body) (piece : List ℕ) (number : ℕ) → TakesLines b piece number (record { len = 0; lines = 0 }) b
none_taken b piece number = record { lines = []; is = record { within = omega arith; text = refl; each = tt; count = refl }; goes = λ s h. h }

-- ---- heads of linear terms

record IsOfVariables (h : Head) : Type 0 where
  kind : line_kind h ≡ Pair
  once : holds_once h ≡ false
  whole : wants_whole_values h ≡ false
  suffix : is_suffix h ≡ false
  limit : (c : Counts) → index_limit c h ≡ c.n_var

of_variables : (h : Head) → is_linear h ≡ true → IsOfVariables h
of_variables (Terms i n) e = record { kind = refl; once = refl; whole = refl; suffix = refl; limit = λ c. refl }
of_variables (Slopes k n) e = record { kind = refl; once = refl; whole = refl; suffix = refl; limit = λ c. refl }
of_variables (Definition i n u) e = record { kind = refl; once = refl; whole = refl; suffix = refl; limit = λ c. refl }
of_variables head e = absurd cc

pub given_at_once : (l : PlaceLines) (h : Head) (line : ℕ) → terms_follow l h line ≡ true → (is_linear h ≡ true) × (keeps_pairs h ≡ false)
given_at_once l (Terms i n) line e = (refl, refl)
given_at_once l (Slopes k n) line e = (refl, refl)
given_at_once l head line e = absurd cc

-- ---- the lines of terms

more_range : (o : OwnerLines) (first n : ℕ) → more_terms (first + n) (more_term_run first n o) ≡ more_term_run first (n + 1) o
more_range o first n =
    ap (λ ts. record o { terms = ts }) (append_assoc o.terms (range_with_len first n) ((first + n) ∷ []) ∙ ap (λ ts. o.terms ++ ts) (sym (range_parts first n 1)))

-- one owner changed twice, and one that is not changed
pub changed_twice : (f g h : OwnerLines → OwnerLines) → ((o : OwnerLines) → f (g o) ≡ h o) → (owners : List OwnerLines) (i : ℕ) → changed f (changed g owners i) i ≡ changed h owners i
changed_twice f g h same [] i = refl
changed_twice f g h same (o ∷ owners) zero = ap (λ x. x ∷ owners) (same o)
changed_twice f g h same (o ∷ owners) (suc i) = ap (λ xs. o ∷ xs) (changed_twice f g h same owners i)

pub changed_same : (f : OwnerLines → OwnerLines) → ((o : OwnerLines) → f o ≡ o) → (owners : List OwnerLines) (i : ℕ) → changed f owners i ≡ owners
changed_same f same [] i = refl
changed_same f same (o ∷ owners) zero = ap (λ x. x ∷ owners) (same o)
changed_same f same (o ∷ owners) (suc i) = ap (λ xs. o ∷ xs) (changed_same f same owners i)

more_terms_at : (owners : List OwnerLines) (i first n : ℕ) → changed (more_terms (first + n)) (changed (more_term_run first n) owners i) i ≡ changed (more_term_run first (n + 1)) owners i
more_terms_at owners i first n = changed_twice (more_terms (first + n)) (more_term_run first n) (more_term_run first (n + 1)) (λ o. more_range o first n) owners i

run_more : (l : PlaceLines) (first n : ℕ) (h : Head) → is_linear h ≡ true → keeps_pairs h ≡ false → with_term_run l first (n + 1) h ≡ with_term_line (with_term_run l first n h) (first + n) h
run_more l first n (Terms i k) e f = ap (λ os. record l { constraints = os }) (sym (more_terms_at l.constraints i first n))
run_more l first n (Slopes i k) e f = ap (λ os. record l { objectives = os }) (sym (more_terms_at l.objectives i first n))
run_more l first n (Definition i j u) e f = absurd cc
run_more l first n head e f = absurd cc

no_terms_at : (owners : List OwnerLines) (i first : ℕ) → changed (more_term_run first 0) owners i ≡ owners
no_terms_at owners i first = changed_same (more_term_run first 0) (λ o. ap (λ ts. record o { terms = ts }) (append-nil o.terms)) owners i

run_none : (l : PlaceLines) (first : ℕ) (h : Head) → with_term_run l first 0 h ≡ l
run_none l first (Terms i k) = ap (λ os. record l { constraints = os }) (no_terms_at l.constraints i first)
run_none l first (Slopes i k) = ap (λ os. record l { objectives = os }) (no_terms_at l.objectives i first)
run_none l first head = refl

given_counts : (d : Draft) (h : Head) (t : Term) → (with_given d h t).counts ≡ d.counts
given_counts d (DualGuesses n) t = refl
given_counts d head t = refl

pub still_below : (d new : Draft) (h : Head) (t : Term) (limit : ℕ) → limit ≡ d.counts.n_var → new ≡ with_given d h t → limit ≡ new.counts.n_var
still_below d new h t limit e given = e ∙ sym (ap (λ c. c.n_var) (ap (λ x. x.counts) given ∙ given_counts d h t))

-- ---- after so many terms

not_full : (h : Head) (l v : ℕ) → is_linear h ≡ true → is_suffix h ≡ false → l < most_terms → is_full_at h l v ≡ false
not_full h l v e f lt = rw (e, f, lt-leb most_terms l lt) refl

fine_known : (c : Counts) (h : Head) (marks : List Bool) (t : Term) → is_linear h ≡ true → t.0 < c.n_var → first_reason (known_pair_tests c h marks false t) ≡ None
fine_known c h marks t e lt =
    let o = of_variables h e in
    let below : nat_lt t.0 (index_limit c h) ≡ true = lt-ltb t.0 (index_limit c h) (subst (λ k. t.0 < k) (sym (o.limit c)) lt) in
    rw (below, o.whole, o.once) refl

module _ (b : Body) (cur : Current) (head : Head) (most first n : ℕ) (d : Draft) (uses : List ℕ) (a : AwaitsTerms b cur head most) (lt : n < most) where
  -- the reader after n terms; its last piece is held, and awaits another one
  abbrev Old : Body
  Old = with_counted (with_parts b d uses) cur first n

  linear : is_linear cur.head ≡ true
  linear = ap is_linear a.same_head ∙ a.linear

  awaits_pair : current_awaits (less_lines cur n) ≡ Pair
  awaits_pair =
      let some : nat_lt 0 (cur.left - n) ≡ true = lt-ltb 0 (cur.left - n) (omega (arith, a.left, lt)) in
      rw some (of_variables cur.head linear).kind

  still_held : Old.current ≡ Some (less_lines cur n)
  still_held = ap (λ k. if is_nothing k then None else Some (less_lines cur n)) awaits_pair

  same_name : Old.name ≡ b.name
  same_name = ap (λ k. if is_nothing k then None else b.name) awaits_pair

  free : is_full_at cur.head (b.linear + n) b.values ≡ false
  free = not_full cur.head (b.linear + n) b.values linear (of_variables cur.head linear).suffix (omega (arith, a.few, lt))

  module _ (words : List (List ℕ)) (t : Term) (p : IsPairRow words t) (below : t.0 < d.counts.n_var) where
    read : IsRead Old (less_lines cur n) words t
    read = record {
      current = still_held;
      awaits = subst (λ o. IsSomeAnd o (λ c. current_awaits c ≡ Pair)) (sym still_held) awaits_pair;
      says = p.says;
      below = subst (λ k. t.0 < k) (sym ((of_variables cur.head linear).limit d.counts)) below;
      fresh = ap (λ x. x && get_or b.marks t.0 false) (of_variables cur.head linear).once;
      free = free;
    }

    fine : first_reason (next_pair_tests d.counts cur.head b.marks false words) ≡ None
    fine = same_known d.counts cur.head b.marks false words t p ∙ fine_known d.counts cur.head b.marks t linear below

    module _ (d_new : Draft) (uses_new : List ℕ) (given : d_new ≡ with_given d head t) (used : uses_new ≡ with_use head uses t.0) where
      abbrev New : Body
      New = with_counted (with_parts b d_new uses_new) cur first (n + 1)

      kept : with_kept (less_lines cur n) t ≡ less_lines cur (n + 1)
      kept =
          let once : cur.left - n - 1 ≡ cur.left - (n + 1) = omega arith in
          ap (λ x. if x then record cur { left = cur.left - n - 1; pairs = cur.pairs ++ t ∷ [] } else less_line (less_lines cur n)) (ap keeps_pairs a.same_head ∙ a.given)
          ∙ ap (λ (k : ℕ). record cur { left = k }) once

      done : IsPairDone Old New (less_lines cur n) head t (first + n)
      done =
          let o = of_variables head a.linear in
          let more : b.linear + (n + 1) ≡ b.linear + n + 1 = omega arith in
          record {
            draft = given ∙ sym (not_closed (with_given d head t) Old.name (with_kept (less_lines cur n) t) (ap (λ c. is_suffix c.head) kept ∙ ap is_suffix a.same_head ∙ o.suffix));
            current = ap unless_complete (sym kept);
            name = ap₂ (λ c m. if is_nothing (current_awaits c) then None else m) (sym kept) (sym same_name);
            marks = ap (λ x. if x then slice_set b.marks t.0 true else b.marks) (sym o.once);
            linear = more ∙ ap (λ x. one_more x (b.linear + n)) (sym a.linear);
            values = ap (λ x. one_more x b.values) (sym o.suffix);
            uses = used;
            places = run_more b.places first n cur.head linear (ap keeps_pairs a.same_head ∙ a.given) ∙ ap (with_term_line (with_term_run b.places first n cur.head) (first + n)) a.same_head;
            columns = refl;
            seen = refl;
            nodes = refl;
            suffixes = refl;
          }

-- ---- a line more

pub term_taken : (b : Body) (cur : Current) (head : Head) (most number : ℕ) (d d_new : Draft) (uses uses_new : List ℕ)
    (piece : List ℕ) (front : Front) (p : FirstPair) → AwaitsTerms b cur head most → front.lines < most
    → TakesLines b piece number front (with_counted (with_parts b d uses) cur number front.lines) → IsFirstPair (drop front.len piece) p → p.index < d.counts.n_var
    → d_new ≡ with_given d head (p.index, p.value) → uses_new ≡ with_use head uses p.index
    → TakesLines b piece number (record { len = front.len + p.len; lines = front.lines + 1 }) (with_counted (with_parts b d_new uses_new) cur number (front.lines + 1))
term_taken b cur head most number d d_new uses uses_new piece front p a lt h first below given used =
    let line = first.line in
    let n = front.lines in
    let words = row_of (without_comment line) in
    let t : Term = (p.index, p.value) in
    let old = with_counted (with_parts b d uses) cur number n in
    let new = with_counted (with_parts b d_new uses_new) cur number (n + 1) in
    let is_read = read b cur head most number n d uses a lt words t first.pair below in
    let is_fine = fine b cur head most number n d uses a lt words t first.pair below in
    let is_done = done b cur head most number n d uses a lt words t first.pair below d_new uses_new given used in
    let step : TakesBodyLine old line (number + n) (Ok tt) new =
    some_row old new line (number + n) (Ok tt) (words_held line 1 first.pair.two)
    (pair_step old new (less_lines cur n) head words (number + n) t false (sym a.same_head)
    (pair_plain words t first.pair) is_read (sym (free b cur head most number n d uses a lt)) is_fine is_done) in
    goes_on b old new piece (drop front.len piece) number front (record { len = p.len; lines = 1 }) h refl (record { lines = line ∷ []; is = first.first; goes = step })

pub can_term : (d_old d : Draft) (uses_old uses : List ℕ) (head : Head) (most : ℕ) (piece : List ℕ) (front : Front) (p : FirstPair) (h : HasBodyOf d_old uses_old head most) → front.lines < most
    → TakesLines h.body piece 1 front (with_counted (with_parts h.body d uses) h.current 1 front.lines) → IsFirstPair (drop front.len piece) p → p.index < d.counts.n_var
    → CanTake (with_counted (with_parts h.body d uses) h.current 1 front.lines) head (p.index, p.value)
can_term d_old d uses_old uses head most piece front p h lt takes first below =
    let now = with_counted (with_parts h.body d uses) h.current 1 front.lines in
    let row : NumberedRow = record { line = 1; text = without_comment first.line } in
    let t : Term = (p.index, p.value) in
    can_take now (less_lines h.current front.lines) head (row_of row.text) 1 t (sym h.is.awaits.same_head)
    (row, record { same_words = refl; same_line = refl }) (still_some h.body now piece 1 front takes h.held)
    (read h.body h.current head most 1 front.lines d uses h.is.awaits lt (row_of row.text) t first.pair below)

-- ---- before any term

pub none_counted : (b : Body) (cur : Current) (head : Head) (most number : ℕ) (d : Draft) (uses piece : List ℕ) → IsBodyOf d uses head most b cur
    → TakesLines b piece number (record { len = 0; lines = 0 }) (with_counted (with_parts b d uses) cur number 0)
none_counted b cur head most number d uses piece is =
    let a = is.awaits in
    let none : cur.left - 0 ≡ cur.left = omega arith in
    let current = still_held b cur head most number 0 d uses a a.some ∙ ap (λ (k : ℕ). Some (record cur { left = k })) none ∙ sym a.current in
    let name = same_name b cur head most number 0 d uses a a.some in
    let linear : b.linear + 0 ≡ b.linear = omega arith in
    let places = run_none b.places number cur.head in
    let same : with_counted (with_parts b d uses) cur number 0 ≡ b =
    λ i. record b {
      draft = sym is.draft i;
      current = current i;
      name = name i;
      linear = linear i;
      uses = sym is.uses_are i;
      places = places i;
    } in
    subst (TakesLines b piece number (record { len = 0; lines = 0 })) (sym same) (none_taken b piece number)
