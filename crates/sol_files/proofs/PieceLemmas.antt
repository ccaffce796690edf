-- What a body means with a line more of a suffix.
use Rattle.std.proofs.Common.{◌≡◌, ◌∙◌, ℕ, ◌+◌, ◌-◌, ◌<◌, ◌≤◌, false, List, [], ◌∷◌, ◌++◌, length, take, refl, sym, ap, ap₂, arith, Option}
use Rattle.std.specs.List.{filter_map}
use Rattle.std.proofs.lemmas.List.{append-nil, length-append, length_push, take_all, take-append-le}
use Rattle.std.proofs.lemmas.List.Elements.{filter_map-append}
use Rattle.std.proofs.lemmas.List.Sums.{sum_by_push}
use Rattle.exact_numbers.specs.declared.dec.Dec.{Dec}
use Rattle.text_base.specs.Words.{row_of, word_at}
use Rattle.sol_files.specs.declared.awaited.Awaited.{Awaited}
use Rattle.sol_files.specs.declared.awaited.SuffixHead.{SuffixHead}
use Rattle.sol_files.specs.declared.suffix.SolSuffix.{SolSuffix}
use Rattle.sol_files.specs.Rows.{Row, pair_in}
use Rattle.sol_files.specs.Parts.{Piece, Body, last_of, change_last, with_piece_line, dual_count, primal_count}
use Rattle.sol_files.specs.Saying.{values_in, suffix_by, suffix_of, sol_of}
use Rattle.sol_files.specs.Progress.{Progress}
use Rattle.sol_files.specs.Built.{with_table_line}
use Rattle.sol_files.specs.Steps.{listed, head_in, rest_awaits, named_suffix, with_values, after_name, after_table, after_value, after_suffix_head}
use Rattle.sol_files.proofs.LastLemmas.{change_last-end, last_of-end}
use Rattle.sol_files.proofs.PlaceLemmas.{line_at, left_after, later_awaits, over_awaits}
use Rattle.sol_files.proofs.BodyLemmas.{met, table_total, value_count_in, value_total}
use Rattle.sol_files.proofs.RowLemmas.{take_nil, part_none, part_more, part_past}

-- ---- the table and the values with a line more

-- the value of a line
abbrev read_pair : List ℕ → Option (ℕ × Dec)
read_pair line = pair_in (row_of line)

table_more : (tables : ℕ) (lines : List (List ℕ)) (line : List ℕ) → length lines < tables → take tables (lines ++ line ∷ []) ≡ take tables lines ++ line ∷ []
table_more tables lines line lt =
    take_all tables (lines ++ line ∷ []) (omega (arith, length_push lines line)) ∙ ap (λ ls. ls ++ line ∷ []) (sym (take_all tables lines (omega arith)))

-- a suffix whose first line says this, named so, with these lines
abbrev made_suffix : SuffixHead → List ℕ → List (List ℕ) → List (ℕ × Dec) → SolSuffix
made_suffix head name table values = record { kind = head.kind; name = name; name_len = head.name_len; table_len = head.table_len; table = table; values = values }

-- ---- what a body means

module _ (message : List (List ℕ)) (rows : List Row) where
  abbrev pub body_with : List Piece → Body
  body_with pieces = record { rows = rows; pieces = pieces }

  made : Awaited → List SolSuffix → ℕ → ℕ → ℕ → Progress
  made a suffixes count tables values =
      record {
        awaited = a;
        is_held_back = false;
        sol = record (sol_of message (body_with [])) { suffixes = suffixes };
        dual_count = dual_count rows;
        primal_count = primal_count rows;
        suffix_count = count;
        table_count = tables;
        value_count = values;
      }

  met_pieces : (pieces : List Piece) → met message (body_with pieces) ≡ made (left_after rows (last_of pieces)) (filter_map suffix_of pieces) (length pieces) (table_total pieces) (value_total pieces)
  unfolding met made sol_of
  met_pieces pieces = refl

  same_made : (a a' : Awaited) (ss ss' : List SolSuffix) (c c' t t' v v' : ℕ) → a ≡ a' → ss ≡ ss' → c ≡ c' → t ≡ t' → v ≡ v' → made a ss c t v ≡ made a' ss' c' t' v'
  same_made a a' ss ss' c c' t t' v v' e1 e2 e3 e4 e5 = λ i. made (e1 i) (e2 i) (e3 i) (e4 i) (e5 i)

  -- pieces of which the last is this
  ended : (front : List Piece) (p : Piece) → met message (body_with (front ++ p ∷ []))
      ≡ made (line_at (head_in p.head) (length p.lines)) (filter_map suffix_of front ++ listed (suffix_of p))
      (length front + 1) (table_total front + (head_in p.head).table_lines) (value_total front + value_count_in p)
  ended front p =
      met_pieces (front ++ p ∷ [])
      ∙ same_made _ (line_at (head_in p.head) (length p.lines)) _ (filter_map suffix_of front ++ listed (suffix_of p)) _
      (length front + 1) _ (table_total front + (head_in p.head).table_lines) _ (value_total front + value_count_in p)
      (ap (left_after rows) (last_of-end front p)) (filter_map-append suffix_of front (p ∷ [])) (length_push front p)
      (sum_by_push (λ q. (head_in q.head).table_lines) front p) (sum_by_push value_count_in front p)

  -- ---- a piece more
  pub piece_begun : (pieces : List Piece) (row : Row) → met message (body_with (pieces ++ record { head = row; lines = [] } ∷ [])) ≡ after_suffix_head (met message (body_with pieces)) row
  unfolding made
  piece_begun pieces row =
      ended pieces (record { head = row; lines = [] })
      ∙ same_made _ _ _ _ _ _ _ _ _ _ refl (append-nil (filter_map suffix_of pieces)) refl refl (omega arith)
      ∙ ap (λ s. after_suffix_head s row) (sym (met_pieces pieces))

  -- ---- a line more of the last piece, by the lines that it has
  module _ (front : List Piece) (row : Row) (line : List ℕ) where
    abbrev pub piece : List (List ℕ) → Piece
    piece lines = record { head = row; lines = lines }

    abbrev pub before : List (List ℕ) → Progress
    before lines = met message (body_with (front ++ piece lines ∷ []))

    abbrev pub grown : List (List ℕ) → Progress
    grown lines = met message (body_with (change_last (with_piece_line line) (front ++ piece lines ∷ [])))

    -- what it means with other lines
    with_lines : (lines : List (List ℕ)) → before lines ≡ made (line_at (head_in row) (length lines))
        (filter_map suffix_of front ++ listed (suffix_by row lines)) (length front + 1)
        (table_total front + (head_in row).table_lines) (value_total front + value_count_in (piece lines))
    with_lines lines = ended front (piece lines)

    with_line_more : (lines : List (List ℕ)) → grown lines ≡ made (line_at (head_in row) (length lines + 1))
        (filter_map suffix_of front ++ listed (suffix_by row (lines ++ line ∷ []))) (length front + 1)
        (table_total front + (head_in row).table_lines) (value_total front + value_count_in (piece (lines ++ line ∷ [])))
    with_line_more lines =
        ap (λ ps. met message (body_with ps)) (change_last-end (with_piece_line line) front (piece lines)) ∙ with_lines (lines ++ line ∷ [])
        ∙ ap (λ i. made (line_at (head_in row) i) (filter_map suffix_of front
        ++ listed (suffix_by row (lines ++ line ∷ []))) (length front + 1)
        (table_total front + (head_in row).table_lines)
        (value_total front + value_count_in (piece (lines ++ line ∷ [])))) (length_push lines line)

    -- its name
    pub named : grown [] ≡ after_name (before []) (head_in row) (row_of line)
    unfolding made
    named =
        let tables = (head_in row).table_lines in
        let values = (head_in row).value_count in
        let none : values_in tables values [] ≡ [] = part_none read_pair [] tables values (omega arith) in
        let left : (tables + 1) - 1 ≡ tables = omega arith in
        let values_left : values - (1 - (tables + 1)) ≡ values = omega arith in
        let rest : line_at (head_in row) 1 ≡ rest_awaits tables values = ap₂ rest_awaits left values_left in
        let suffix : made_suffix (head_in row) (word_at (row_of line) 0) (take tables []) (values_in tables values [])
        ≡ named_suffix (head_in row) (word_at (row_of line) 0) =
        ap₂ (made_suffix (head_in row) (word_at (row_of line) 0)) (take_nil tables) none in
        let count : length (values_in tables values []) ≡ 0 = ap length none in
        with_line_more []
        ∙ same_made _ _ _ _ _ _ _ _ _ _ rest
        (ap (λ s. filter_map suffix_of front ++ s ∷ []) suffix ∙ ap (λ ss. ss ++ named_suffix (head_in row) (word_at (row_of line) 0) ∷ []) (sym (append-nil (filter_map suffix_of front))))
        refl refl (omega arith)
        ∙ ap (λ s. after_name s (head_in row) (row_of line)) (sym (with_lines []))

    -- after its name
    module _ (first : List ℕ) (lines : List (List ℕ)) where
      -- the suffix that it is
      suffix : SolSuffix
      suffix = made_suffix (head_in row) (word_at (row_of first) 0) (take (head_in row).table_lines lines) (values_in (head_in row).table_lines (head_in row).value_count lines)

      -- a change of that suffix alone
      changed : (a : Awaited) (f : SolSuffix → SolSuffix) (more : ℕ) → line_at (head_in row) (length (first ∷ lines) + 1) ≡ a
          → made_suffix (head_in row) (word_at (row_of first) 0) (take (head_in row).table_lines (lines ++ line ∷ []))
          (values_in (head_in row).table_lines (head_in row).value_count (lines ++ line ∷ [])) ≡ f suffix
          → length (values_in (head_in row).table_lines (head_in row).value_count (lines ++ line ∷ [])) ≡ length (values_in (head_in row).table_lines (head_in row).value_count lines) + more
          → grown (first ∷ lines) ≡ record (before (first ∷ lines)) {
            awaited = a;
            sol = record (before (first ∷ lines)).sol
                { suffixes = change_last f (before (first ∷ lines)).sol.suffixes };
            value_count =
                (before (first ∷ lines)).value_count + more;
          }
      unfolding made suffix
      changed a f more e1 e2 e3 =
          with_line_more (first ∷ lines)
          ∙ same_made _ a _ (change_last f (filter_map suffix_of front ++ suffix ∷ [])) _ _ _ _ _
          (value_total front + length (values_in (head_in row).table_lines (head_in row).value_count lines) + more) e1
          (ap (λ s. filter_map suffix_of front ++ s ∷ []) e2 ∙ sym (change_last-end f (filter_map suffix_of front) suffix)) refl refl (omega (arith, e3))
          ∙ ap (λ (s : Progress). record s { awaited = a; sol = record s.sol { suffixes = change_last f s.sol.suffixes }; value_count = s.value_count + more }) (sym (with_lines (first ∷ lines)))

      -- a line of its table
      pub tabled : length (first ∷ lines) ≤ (head_in row).table_lines → (left rest : ℕ)
          → left ≡ ((head_in row).table_lines + 1) - length (first ∷ lines)
          → rest ≡ (head_in row).value_count - (length (first ∷ lines) - ((head_in row).table_lines + 1))
          → grown (first ∷ lines) ≡ after_table (before (first ∷ lines)) left rest line
      unfolding suffix
      tabled le left rest e f =
          let none : values_in (head_in row).table_lines (head_in row).value_count lines ≡ [] = part_none read_pair lines (head_in row).table_lines (head_in row).value_count (omega arith) in
          let still : values_in (head_in row).table_lines (head_in row).value_count (lines ++ line ∷ []) ≡ [] =
          part_none read_pair (lines ++ line ∷ []) (head_in row).table_lines (head_in row).value_count
          (omega (arith, length_push lines line)) in
          let next : ((head_in row).table_lines + 1) - (length (first ∷ lines) + 1) ≡ left - 1 = omega arith in
          let rest_next : (head_in row).value_count - ((length (first ∷ lines) + 1) - ((head_in row).table_lines + 1)) ≡ rest = omega arith in
          changed (rest_awaits (left - 1) rest) (with_table_line line) 0
          (later_awaits (head_in row) (length (first ∷ lines)) ∙ ap₂ rest_awaits next rest_next)
          (ap₂ (made_suffix (head_in row) (word_at (row_of first) 0)) (table_more (head_in row).table_lines lines line (omega arith)) (still ∙ sym none))
          (ap length (still ∙ sym none) ∙ omega arith)
          ∙ ap (λ n. record (after_table (before (first ∷ lines)) left rest line) { value_count = n }) (omega arith)

      -- a value
      pub valued : (head_in row).table_lines < length (first ∷ lines)
          → length (first ∷ lines) < (head_in row).table_lines + 1 + (head_in row).value_count → (left : ℕ)
          → left ≡ (head_in row).value_count - (length (first ∷ lines) - ((head_in row).table_lines + 1))
          → grown (first ∷ lines) ≡ after_value (before (first ∷ lines)) left (row_of line)
      unfolding suffix
      valued lt less left e =
          let more = part_more read_pair lines line (head_in row).table_lines (head_in row).value_count (omega arith) (omega arith) in
          let none : ((head_in row).table_lines + 1) - (length (first ∷ lines) + 1) ≡ 0 = omega arith in
          let next : (head_in row).value_count - ((length (first ∷ lines) + 1) - ((head_in row).table_lines + 1)) ≡ left - 1 = omega arith in
          changed (rest_awaits 0 (left - 1)) (with_values (listed (pair_in (row_of line)))) (length (listed (pair_in (row_of line))))
          (later_awaits (head_in row) (length (first ∷ lines)) ∙ ap₂ rest_awaits none next)
          (ap₂ (made_suffix (head_in row) (word_at (row_of first) 0)) (take-append-le (head_in row).table_lines lines (line ∷ []) (omega arith)) more)
          (ap length more ∙ length-append (values_in (head_in row).table_lines (head_in row).value_count lines) (listed (pair_in (row_of line))))

      -- a row too many
      pub over : (head_in row).table_lines + 1 + (head_in row).value_count ≤ length (first ∷ lines) → grown (first ∷ lines) ≡ before (first ∷ lines)
      over le =
          with_line_more (first ∷ lines)
          ∙ same_made _ (line_at (head_in row) (length (first ∷ lines))) _ _ _ _ _ _ _ _
          (over_awaits (head_in row) (length (first ∷ lines)) (omega arith) le)
          (ap (λ s. filter_map suffix_of front ++ s ∷ [])
          (ap₂ (made_suffix (head_in row) (word_at (row_of first) 0))
          (take-append-le (head_in row).table_lines lines (line ∷ []) (omega arith))
          (part_past read_pair lines line (head_in row).table_lines (head_in row).value_count (omega arith))))
          refl refl (ap (λ (vs : List (ℕ × Dec)). value_total front + length vs) (part_past read_pair lines line (head_in row).table_lines (head_in row).value_count (omega arith)))
          ∙ sym (with_lines (first ∷ lines))
