-- What a line adds to what is held of the lines before it, and what that means.
use Rattle.std.proofs.Common.{◌≡◌, ◌∙◌, ℕ, ◌+◌, ◌<◌, Bool, true, false, cond, ◌&&◌, ◌||◌, List, [], ◌∷◌, ◌++◌, length, Option, Some, None, refl, sym, ap, ap₂, subst, arith, ◌==◌, ◌-◌, ◌≤◌}
use Rattle.std.specs.Prelude.{codes}
use Rattle.std.specs.List.{list_any, after_first, fold, filter_map, sum_by, cons_option}
use Rattle.std.specs.Option.{option_map_or}
use Rattle.std.proofs.lemmas.Bool.{ne_eqb, and_parts}
use Rattle.std.proofs.lemmas.List.{length_push, nil_from_length, append-nil, append_assoc}
use Rattle.std.proofs.lemmas.List.Folds.{list_any-append}
use Rattle.std.proofs.lemmas.List.Sums.{fold_push, sum_by-cons}
use Rattle.text_base.specs.Words.{row_of, begins}
use Rattle.exact_numbers.specs.Numbers.{whole_of}
use Rattle.sol_files.specs.declared.awaited.Awaited.{Awaited}
use Rattle.sol_files.specs.declared.awaited.Awaited.TheVariants.{Message, Tail, Name, Table, Values}
use Rattle.sol_files.specs.declared.suffix.SolSuffix.{SolSuffix}
use Rattle.sol_files.specs.Sol.{Sol}
use Rattle.sol_files.specs.Rows.{Row}
use Rattle.sol_files.specs.Parts.{Piece, Body, is_options, message_lines, ends_blank, without_blank_end, is_in_message}
use Rattle.sol_files.specs.Parts.{body_of, body_awaits, option_count, dual_count, primal_count, is_raw, is_tail}
use Rattle.sol_files.specs.Parts.{with_new_piece, to_last_piece, with_row_line, with_line, no_body}
use Rattle.sol_files.specs.Saying.{suffix_of, sol_of}
use Rattle.sol_files.specs.Plan.{LineKind}
use Rattle.sol_files.specs.Standing.{standing}
use Rattle.sol_files.specs.Progress.{Progress, kind_of, seen, start}
use Rattle.sol_files.specs.Steps.{after, after_at, after_row, after_row_line, after_suffix_head, head_in, lines_with, held_lines, read}
use Rattle.sol_files.proofs.LastLemmas.{ends_with, last_of-end}
use Rattle.sol_files.proofs.MessageLemmas.{before_more, after_more, none_after, ends_blank-more, held_back, without_blank_end-more}
use Rattle.sol_files.proofs.BodyLemmas.{met, value_count_in, value_total, row_more}
use Rattle.sol_files.proofs.PlaceLemmas.{rows_left, Place, place, line_at, LinePlace, at_name, at_table, at_value, at_end, line_place, left_after, body_left, rows_kind, body_kind}
use Rattle.sol_files.proofs.PieceLemmas.{piece_begun, named, tabled, valued, over}

-- nothing but what was said
abbrev pub with_draft : Sol → Progress
with_draft s = record start { sol = s }

-- ---- a line of a body, by what is awaited

abbrev with_at : LineKind → Body → List ℕ → Body
with_at a b line =
    cond (is_raw a) (to_last_piece b line)
    (cond (length (row_of line) == 0) b
    (cond (is_tail a && begins (row_of line) (codes "suffix")) (with_new_piece b (row_of line)) (with_row_line b line)))

abbrev Steps : List (List ℕ) → Body → List ℕ → Awaited → Type 0
Steps message b line a = met message (with_at (kind_of a) b line) ≡ after_at a (met message b) line

-- a line that is judged by its words
abbrev pub is_plain : Awaited → Bool
is_plain Message = false
is_plain (Name head) = false
is_plain (Table tables values) = false
is_plain a = true

pub plain_after : (a : Awaited) (s : Progress) (line : List ℕ) → is_plain a ≡ true → after_row_line a s (row_of line) ≡ after_at a s line
unfolding after_at
plain_after Message s line e = cc
plain_after a s line e = cc

plain_raw : (a : Awaited) → is_plain a ≡ true → is_raw (kind_of a) ≡ false
plain_raw Message e = cc
plain_raw a e = cc

pub tail_is : (a : Awaited) → is_tail (kind_of a) ≡ true → a ≡ Tail
tail_is Tail e = refl
tail_is a e = absurd cc

tail_suffix : (s : Progress) (row : Row) → begins row (codes "suffix") ≡ true → after_row Tail s row ≡ after_suffix_head s row
unfolding after_row
tail_suffix s row e = rw e refl

-- a line without words, a suffix more, or a row that belongs where it stands
plain_step : (message : List (List ℕ)) (b : Body) (line : List ℕ) (a : Awaited) → is_plain a ≡ true
    → ((a ≡ Tail → begins (row_of line) (codes "suffix") ≡ false) → met message (with_row_line b line) ≡ after_row a (met message b) (row_of line))
    → Steps message b line a
unfolding after_row
plain_step message b line a plain row = by (length (row_of line) == 0) refl (is_tail (kind_of a) && begins (row_of line) (codes "suffix")) refl ∙ plain_after a (met message b) line plain
  where
    by : (z : Bool) → (length (row_of line) == 0) ≡ z → (t : Bool)
        → (is_tail (kind_of a) && begins (row_of line) (codes "suffix")) ≡ t
        → met message (with_at (kind_of a) b line) ≡ after_row_line a (met message b) (row_of line)
    by true e t f = rw (plain_raw a plain, e) refl
    by false e true f =
        let parts = and_parts (is_tail (kind_of a)) (begins (row_of line) (codes "suffix")) f in
        rw (plain_raw a plain, e, f) (piece_begun message b.rows b.pieces (row_of line)
        ∙ sym (tail_suffix (met message b) (row_of line) parts.1)
        ∙ ap (λ x. after_row x (met message b) (row_of line)) (sym (tail_is a parts.0)))
    by false e false f = rw (plain_raw a plain, e, f) (row (λ tail. rw tail at f))

-- ---- without a suffix

rows_plain : (k d p i : ℕ) (a : Awaited) → Place k d p i a → is_plain a ≡ true
rows_plain k d p i Message h = elim h [ ]
rows_plain k d p i (Name head) h = elim h [ ]
rows_plain k d p i (Table tables values) h = elim h [ ]
rows_plain k d p i a h = refl

step_of_rows : (message : List (List ℕ)) (rows : List Row) (line : List ℕ)
    → met message (with_line (record { rows = rows; pieces = [] }) line)
    ≡ after (met message (record { rows = rows; pieces = [] })) line
unfolding met
step_of_rows message rows line =
    let b : Body = record { rows = rows; pieces = [] } in
    subst (λ k. met message (with_at k b line) ≡ after (met message b) line) (sym (rows_kind rows))
    (plain_step message b line (rows_left rows)
    (rows_plain (option_count rows) (dual_count rows) (primal_count rows) (length rows) (rows_left rows) (place (option_count rows) (dual_count rows) (primal_count rows) (length rows)))
    (row_more message rows (row_of line)))

-- ---- after a suffix

module _ (message : List (List ℕ)) (rows : List Row) (front : List Piece) (head : Row) (line : List ℕ) where
  abbrev body : List (List ℕ) → Body
  body lines = record { rows = rows; pieces = front ++ record { head = head; lines = lines } ∷ [] }

  -- a row goes to the last suffix
  to_last : (lines : List (List ℕ)) → with_row_line (body lines) line ≡ to_last_piece (body lines) line
  to_last lines = rw (ne_eqb (length (front ++ record { head = head; lines = lines } ∷ [])) 0 (λ e. omega (arith, e, length_push front (record { head = head; lines = lines })))) refl

  past_tail : (lines : List (List ℕ)) → begins (row_of line) (codes "suffix") ≡ false → after_row Tail (met message (body lines)) (row_of line) ≡ met message (body lines)
  unfolding after_row met
  past_tail lines e = rw (e, ne_eqb (length (front ++ record { head = head; lines = lines } ∷ [])) 0 (λ z. omega (arith, z, length_push front (record { head = head; lines = lines })))) refl

  step_named : (lines : List (List ℕ)) → length lines ≡ 0 → Steps message (body lines) line (Name (head_in head))
  unfolding after_at
  step_named lines z = subst (λ ls. Steps message (body ls) line (Name (head_in head))) (sym (nil_from_length lines z)) (named message rows front head line)

  step_tabled : (lines : List (List ℕ)) → 0 < length lines → length lines ≤ (head_in head).table_lines
      → Steps message (body lines) line (Table (((head_in head).table_lines + 1) - length lines)
      ((head_in head).value_count - (length lines - ((head_in head).table_lines + 1))))
  unfolding after_at
  step_tabled [] lt le = absurd (omega arith)
  step_tabled (text ∷ lines) lt le = tabled message rows front head line text lines le _ _ refl refl

  valued_row : (lines : List (List ℕ)) → (head_in head).table_lines < length lines
      → length lines < (head_in head).table_lines + 1 + (head_in head).value_count
      → met message (with_row_line (body lines) line) ≡ after_row
      (Values ((head_in head).value_count - (length lines - ((head_in head).table_lines + 1)))) (met message (body lines))
      (row_of line)
  unfolding after_row
  valued_row [] lt less = absurd (omega arith)
  valued_row (text ∷ lines) lt less = ap (met message) (to_last (text ∷ lines)) ∙ valued message rows front head line text lines lt less _ refl

  over_row : (lines : List (List ℕ)) → (head_in head).table_lines + 1 + (head_in head).value_count ≤ length lines
      → begins (row_of line) (codes "suffix") ≡ false → met message (with_row_line (body lines) line)
      ≡ after_row Tail (met message (body lines)) (row_of line)
  over_row [] le e = absurd (omega arith)
  over_row (text ∷ lines) le e = ap (met message) (to_last (text ∷ lines)) ∙ over message rows front head line text lines le ∙ sym (past_tail (text ∷ lines) e)

  step_by : (lines : List (List ℕ)) (a : Awaited) → LinePlace (head_in head) (length lines) a → Steps message (body lines) line a
  step_by lines Tail (at_end le) = plain_step message (body lines) line Tail refl (λ tail. over_row lines le (tail refl))
  step_by lines (Name x) (at_name z) = step_named lines z
  step_by lines (Table x y) (at_table lt le) = step_tabled lines lt le
  step_by lines (Values x) (at_value lt less) = plain_step message (body lines) line (Values x) refl (λ tail. valued_row lines lt less)
  step_by lines a h = elim h [ ]

  step_of_piece : (lines : List (List ℕ)) → met message (with_line (body lines) line) ≡ after (met message (body lines)) line
  unfolding met
  step_of_piece lines =
      let awaited : body_left (body lines) ≡ line_at (head_in head) (length lines) = ap (left_after rows) (last_of-end front (record { head = head; lines = lines })) in
      subst (λ k. met message (with_at k (body lines) line) ≡ after (met message (body lines)) line) (sym (body_kind (body lines)))
      (subst (Steps message (body lines) line) (sym awaited) (step_by lines (line_at (head_in head) (length lines)) (line_place (head_in head) (length lines))))

-- ---- any line of a body

step_with : (message : List (List ℕ)) (rows : List Row) (pieces : List Piece) (line : List ℕ)
    → met message (with_line (record { rows = rows; pieces = pieces }) line)
    ≡ after (met message (record { rows = rows; pieces = pieces })) line
step_with message rows [] line = step_of_rows message rows line
step_with message rows (p ∷ ps) line =
    let e = ends_with p ps in
    subst (λ pieces. met message (with_line (record { rows = rows; pieces = pieces }) line) ≡ after (met message (record { rows = rows; pieces = pieces })) line) (sym e.whole)
    (step_of_piece message rows e.front e.end.head line e.end.lines)

pub body_step : (message : List (List ℕ)) (b : Body) (line : List ℕ) → met message (with_line b line) ≡ after (met message b) line
body_step message b line = step_with message b.rows b.pieces line

-- ---- any line of a text

-- lines of a message
unfoldable pub spoken : List (List ℕ) → Progress
spoken lines =
    record {
      awaited = Message;
      is_held_back = ends_blank lines;
      sol = sol_of (without_blank_end lines) no_body;
      dual_count = dual_count [];
      primal_count = primal_count [];
      suffix_count = 0;
      table_count = 0;
      value_count = 0;
    }

no_body_yet : (lines : List (List ℕ)) → list_any is_options lines ≡ false → body_of lines ≡ no_body
unfolding body_of
no_body_yet lines none = ap (fold with_line no_body) (none_after is_options lines none)

-- what is held of lines, by their places
counted : List (List ℕ) → Progress
counted lines = cond (is_in_message lines) (spoken (message_lines lines)) (met (without_blank_end (message_lines lines)) (body_of lines))

in_message : (lines : List (List ℕ)) → list_any is_options lines ≡ false → counted lines ≡ spoken (message_lines lines)
unfolding counted spoken
in_message lines none = rw none refl

past_message : (lines : List (List ℕ)) → list_any is_options lines ≡ true → counted lines ≡ met (without_blank_end (message_lines lines)) (body_of lines)
unfolding counted met
past_message lines some = rw some refl

options_more : (lines : List (List ℕ)) (line : List ℕ) → list_any is_options (lines ++ line ∷ []) ≡ (list_any is_options lines || (is_options line || false))
options_more lines line = list_any-append is_options lines (line ∷ [])

pub spoken_more : (said : List (List ℕ)) (line : List ℕ) → is_options line ≡ false → after (spoken said) line ≡ spoken (said ++ line ∷ [])
unfolding after_at spoken sol_of
spoken_more said line other =
    let more : without_blank_end (said ++ line ∷ []) ≡ lines_with
    (without_blank_end said ++ held_lines (ends_blank said)) line =
    without_blank_end-more said line ∙ ap (λ ls. lines_with ls line) (sym (held_back said)) in
    let becomes : after (spoken said) line ≡ record (spoken said) {
      is_held_back = length line == 0;
      sol = record (spoken said).sol
          { message = lines_with (without_blank_end said ++ held_lines (ends_blank said)) line };
    } = rw other refl in
    becomes ∙ sym (ap₂ (λ h m. record (spoken said) { is_held_back = h; sol = record (spoken said).sol { message = m } }) (ends_blank-more said line) more)

-- a line of the message
message_line : (lines : List (List ℕ)) (line : List ℕ) → list_any is_options lines ≡ false → is_options line ≡ false → counted (lines ++ line ∷ []) ≡ after (counted lines) line
message_line lines line none other =
    let still : list_any is_options (lines ++ line ∷ []) ≡ false = rw (options_more lines line, none, other) refl in
    in_message (lines ++ line ∷ []) still ∙ ap spoken (rw (none, other) at (before_more is_options lines line))
    ∙ sym (spoken_more (message_lines lines) line other) ∙ ap (λ (s : Progress). after s line) (sym (in_message lines none))

-- the line `Options`
options_line : (lines : List (List ℕ)) (line : List ℕ) → list_any is_options lines ≡ false → is_options line ≡ true → counted (lines ++ line ∷ []) ≡ after (counted lines) line
unfolding after_at spoken met sol_of body_of
options_line lines line none is =
    let said = message_lines lines in
    let now : list_any is_options (lines ++ line ∷ []) ≡ true = rw (options_more lines line, none, is) refl in
    let begun : body_of (lines ++ line ∷ []) ≡ no_body = ap (fold with_line no_body) (rw (none, append-nil) at (after_more is_options lines line)) ∙ no_body_yet lines none in
    let becomes : after (spoken said) line ≡ met (without_blank_end said) no_body = rw is refl in
    past_message (lines ++ line ∷ []) now ∙ ap₂ (λ ls b. met (without_blank_end ls) b) (rw (none, is, append-nil) at (before_more is_options lines line)) begun
    ∙ sym becomes ∙ ap (λ (s : Progress). after s line) (sym (in_message lines none))

-- a line after it
body_line : (lines : List (List ℕ)) (line : List ℕ) → list_any is_options lines ≡ true → counted (lines ++ line ∷ []) ≡ after (counted lines) line
unfolding body_of
body_line lines line some =
    let still : list_any is_options (lines ++ line ∷ []) ≡ true = rw (options_more lines line, some) refl in
    let more : body_of (lines ++ line ∷ []) ≡ with_line (body_of lines) line =
    ap (fold with_line no_body) (rw some at (after_more is_options lines line))
    ∙ fold_push with_line no_body (after_first is_options lines) line in
    past_message (lines ++ line ∷ []) still ∙ ap₂ (λ ls b. met (without_blank_end ls) b) (rw (some, append-nil) at (before_more is_options lines line)) more
    ∙ body_step (without_blank_end (message_lines lines)) (body_of lines) line ∙ ap (λ (s : Progress). after s line) (sym (past_message lines some))

counted-more : (lines : List (List ℕ)) (line : List ℕ) → counted (lines ++ line ∷ []) ≡ after (counted lines) line
counted-more lines line = by (list_any is_options lines) refl (is_options line) refl
  where
    by : (b : Bool) → list_any is_options lines ≡ b → (c : Bool) → is_options line ≡ c → counted (lines ++ line ∷ []) ≡ after (counted lines) line
    by true e c f = body_line lines line e
    by false e true f = options_line lines line e f
    by false e false f = message_line lines line e f

-- ---- all lines of a text

counted-none : counted [] ≡ start
unfolding counted spoken ends_blank without_blank_end sol_of whole_of
counted-none = refl

read_from : (done rest : List (List ℕ)) → fold after (counted done) rest ≡ counted (done ++ rest)
read_from done [] = ap counted (sym (append-nil done))
read_from done (line ∷ rest) =
    ap (λ (s : Progress). fold after s rest) (sym (counted-more done line)) ∙ read_from (done ++ line ∷ []) rest ∙ ap counted (append_assoc done (line ∷ []) rest)

read-counted : (lines : List (List ℕ)) → read lines ≡ counted lines
unfolding read
read-counted lines = ap (λ (s : Progress). fold after s lines) (sym counted-none) ∙ read_from [] lines

value_sum : (pieces : List Piece) → sum_by (λ s. length s.values) (filter_map suffix_of pieces) ≡ value_total pieces
value_sum [] = refl
value_sum (p ∷ ps) = by (suffix_of p) ∙ ap (λ n. value_count_in p + n) (value_sum ps) ∙ sym (sum_by-cons value_count_in p ps)
  where
    by : (o : Option SolSuffix) → sum_by (λ s. length s.values) (cons_option o (filter_map suffix_of ps))
        ≡ option_map_or (λ s. length s.values) o 0 + sum_by (λ s. length s.values) (filter_map suffix_of ps)
    by None = omega arith
    by (Some s) = sum_by-cons (λ x. length x.values) s (filter_map suffix_of ps)

standing-counted : (lines : List (List ℕ)) → standing lines ≡ seen (counted lines)
unfolding standing counted spoken met sol_of
standing-counted lines = by (list_any is_options lines) refl
  where
    by : (b : Bool) → list_any is_options lines ≡ b → standing lines ≡ seen (counted lines)
    by true some =
        let said = met (without_blank_end (message_lines lines)) (body_of lines) in
        let b = body_of lines in
        let is : standing lines ≡ record (seen said) { awaited = body_awaits b; value_count = sum_by (λ s. length s.values) (filter_map suffix_of b.pieces) } = rw some refl in
        is ∙ ap₂ (λ k n. record (seen said) { awaited = k; value_count = n }) (body_kind b) (value_sum b.pieces) ∙ sym (ap seen (past_message lines some))
    by false none = rw (none, no_body_yet lines none) refl

pub read-none : read [] ≡ start
unfolding read
read-none = refl

pub read-more : (lines : List (List ℕ)) (line : List ℕ) → read (lines ++ line ∷ []) ≡ after (read lines) line
unfolding read
read-more lines line = fold_push after start lines line

pub standing-read : (lines : List (List ℕ)) → standing lines ≡ seen (read lines)
standing-read lines = standing-counted lines ∙ ap seen (sym (read-counted lines))

-- what is held of lines shows what they mean
pub standing-held : (s : Progress) (lines : List (List ℕ)) → s ≡ read lines → standing lines ≡ seen s
standing-held s lines e = standing-read lines ∙ ap seen (sym e)

pub no_lines : standing [] ≡ seen start
no_lines = standing-read [] ∙ ap seen read-none
