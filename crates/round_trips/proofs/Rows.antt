-- Rows without a fault keep what a written file needs: good heads, nodes that use what is there, whole values where they are wanted, intervals in order, and the limits of numbers.
use Rattle.std.proofs.Common.{zero, suc, ◌≡◌, ◌∙◌, ℕ, ◌+◌, ◌<◌, ◌≤◌, ◌^◌, Bool, true, false, not, ◌&&◌, cond, ℤ, List}
use Rattle.std.proofs.Common.{[], ◌∷◌, ◌++◌, length, get_or, refl, sym, ap, subst, arith, nat_le, Option, Some, None}
use Rattle.std.proofs.Common.{All, append_assoc, append-nil, length-append}
use Rattle.std.specs.Prelude.{IfSome, is_none, option_and_then, option_map, unwrap_or}
use Rattle.std.specs.List.{cons_option}
use Rattle.std.specs.Option.{option_map_or}
use Rattle.std.proofs.lemmas.Bool.{leb-false, not-false, or_parts}
use Rattle.std.proofs.lemmas.Bool.Decides.{nat_tests}
use Rattle.std.proofs.lemmas.List.{map-append}
use Rattle.std.proofs.lemmas.List.Elements.{All-push, All-append, filter_map-append}
use Rattle.text_base.specs.Judged.{first_reason}
use Rattle.text_base.specs.Words.{word_at}
use Rattle.text_base.proofs.FirstReasons.{none_head, none_each, none_first, none_second}
use Rattle.exact_numbers.specs.declared.dec.Dec.{Dec}
use Rattle.exact_numbers.specs.Numbers.{dec_of, is_whole, whole_of}
use Rattle.nl_model.specs.declared.header_counts.Counts.{Counts}
use Rattle.linear_program.specs.declared.interval.Interval.{Interval}
use Rattle.nl_model.specs.declared.node.Node.{Node}
use Rattle.nl_model.specs.Draft.{Draft}
use Rattle.nl_model.specs.File.{Term}
use Rattle.nl_model.specs.Kinds.{variable_kind}
use Rattle.linear_program.specs.Intervals.{IsOrdered}
use Rattle.nl_model.specs.Rules.{most_terms}
use Rattle.nl_lines.specs.declared.awaited.Awaited.{Awaited}
use Rattle.nl_lines.specs.declared.awaited.Awaited.TheVariants.{Nothing, Pair, ColumnCount, Interval as IntervalLine, Node as NodeLine, OperandCount}
use Rattle.nl_lines.specs.declared.head.Head.{Head}
use Rattle.nl_lines.specs.declared.head.Head.TheVariants.{Body, Objective, Definition as DefinitionHead, Sides, Bounds}
use Rattle.nl_lines.specs.declared.fault.NlReason.TheVariants.{ShortSegment, RepeatedIndex, TooLarge}
use Rattle.nl_lines.specs.Rows.{NumberedRow, row_words}
use Rattle.nl_lines.specs.Heads.{is_head, head_of, name_in}
use Rattle.nl_lines.specs.declared.pending.Pending.{Pending}
use Rattle.nl_lines.specs.Nodes.{Placed, node_in, opcode_in, nodes_of, pending_from, with_operands, only_nodes}
use Rattle.nl_lines.specs.Pieces.{Piece, awaited_in, awaited_of, has_tree, interval_in, is_nothing, last_piece}
use Rattle.nl_lines.specs.Pieces.{line_count, line_kind, pair_count, pair_in, piece_intervals, piece_nodes, piece_pairs}
use Rattle.nl_lines.specs.Pieces.{piece_pending, extended, tree_awaits, tree_rows, with_row}
use Rattle.nl_lines.specs.Saying.{draft_of}
use Rattle.nl_lines.specs.Tests.{Tests, is_full, awaited_tests, formed_head_tests, has_index, head_form_tests}
use Rattle.nl_lines.specs.Tests.{head_tests, holds_once, index_limit, interval_form_tests, interval_tests, is_binary}
use Rattle.nl_lines.specs.Tests.{is_empty, is_linear, is_sides, is_suffix, is_within_unit, node_form_tests, node_tests}
use Rattle.nl_lines.specs.Tests.{node_total, pair_form_tests, pair_tests, pair_total, row_tests, suffix_count}
use Rattle.nl_lines.specs.Tests.{wants_unit, wants_whole_values}
use Rattle.nl_lines.specs.NodeRows.{IsNodeKnown}
use Rattle.nl_segments.proofs.CleanRows.{AreClean, IsInside, clean_none, clean_row, inside_tree, no_count, node_awaited}
use Rattle.nl_lines.proofs.RowLemmas.{early_tree, last_nodes, last_pending, late_pairs, late_tree, pending-more}
use Rattle.nl_segments.proofs.CurrentLemmas.{begun}
use Rattle.nl_lines.proofs.DraftLemmas.{draft_before}
use Rattle.nl_segments.proofs.HeadBegun.{new_piece, no_pairs, no_nodes, nodes_begun, pairs_begun, count_begun}
use Rattle.nl_lines.proofs.IntervalOrder.{ordered}
use Rattle.nl_lines.proofs.NodeLemmas.{node_known, opcode_counted}
use Rattle.nl_segments.proofs.NodeSteps.{IsInTree, tree_nodes, tree_says}
use Rattle.nl_segments.proofs.PairHeld.{before_lines, nodes_early, none_within, plain_lines, same_totals}
use Rattle.nl_lines.proofs.PairJudging.{pair_found}
use Rattle.nl_segments.proofs.PairLines.{awaited-last, pairs_longer, suffixes_longer}
use Rattle.nl_segments.proofs.PairPiece.{pair_lines}
use Rattle.nl_lines.proofs.RowLemmas as row_more
use Rattle.nl_lines.proofs.PieceLemmas.{split, last-append, longer, extended-append}
use Rattle.nl_lines.proofs.TotalLemmas.{nodes-append}
use Rattle.round_trips.proofs.Heads.{HasNoMark, IsGoodHead, MayBeGood, good_head}

-- ---- what is known of a piece after others

-- intervals: each row is one, and they are in order and fit the kinds of variables
pub record AreGoodIntervals (c : Counts) (p : Piece) : Type 0 where
  pub count : length (piece_intervals p) ≡ length p.rows
  pub most : length p.rows ≤ line_count c p.head
  pub in_order : All IsOrdered (piece_intervals p)
  pub units : is_sides p.head ≡ false → (j : ℕ) (i : Interval) → j < length (piece_intervals p) → is_binary (variable_kind c j) ≡ true → is_within_unit (get_or (piece_intervals p) j i) ≡ true

pub record IsGoodPiece (o : List ℤ) (c : Counts) (before : List Piece) (p : Piece) : Type 0 where
  pub head : IsGoodHead p.head p.name
  pub known : All (IsNodeKnown c.n_var (draft_of o c before).definitions) (only_nodes (piece_nodes c p))
  pub whole : wants_whole_values p.head ≡ true → All (λ (t : Term). is_whole t.1 ≡ true) (piece_pairs p)
  pub intervals : line_kind p.head ≡ IntervalLine → AreGoodIntervals c p

abbrev pub AreGood : List ℤ → Counts → List Piece → List Piece → Type 0
AreGood o c before [] = Unit {0}
AreGood o c before (p ∷ pieces) = IsGoodPiece o c before p × AreGood o c (before ++ p ∷ []) pieces

good_parts : (o : List ℤ) (c : Counts) (before ps : List Piece) (p : Piece) → AreGood o c before (ps ++ p ∷ []) → AreGood o c before ps × IsGoodPiece o c (before ++ ps) p
good_parts o c before [] p h = (tt, subst (λ b. IsGoodPiece o c b p) (sym (append-nil before)) h.0)
good_parts o c before (q ∷ ps) p h =
    let rest = good_parts o c (before ++ q ∷ []) ps p h.1 in
    ((h.0, rest.0), subst (λ b. IsGoodPiece o c b p) (append_assoc before (q ∷ []) ps) rest.1)

good_whole : (o : List ℤ) (c : Counts) (before ps : List Piece) (p : Piece) → AreGood o c before ps → IsGoodPiece o c (before ++ ps) p → AreGood o c before (ps ++ p ∷ [])
good_whole o c before [] p h g = (subst (λ b. IsGoodPiece o c b p) (append-nil before) g, tt)
good_whole o c before (q ∷ ps) p h g = (h.0, good_whole o c (before ++ q ∷ []) ps p h.1 (subst (λ b. IsGoodPiece o c b p) (sym (append_assoc before (q ∷ []) ps)) g))

-- ---- the limits of numbers

abbrev HasNodeLeft : Counts → List Piece → Piece → Type 0
HasNodeLeft c pieces p = IfSome (piece_pending p) (λ q. node_total c pieces < 2 ^ 22)

pub record AreFew (c : Counts) (pieces : List Piece) : Type 0 where
  pub linear : pair_total is_linear pieces ≤ 2 ^ 22
  pub values : pair_total is_suffix pieces ≤ 2 ^ 22
  pub nodes : node_total c pieces ≤ 2 ^ 22
  pub pending : IfSome (last_piece pieces) (HasNodeLeft c pieces)
  pub suffixes : suffix_count pieces ≤ 1024

-- the last piece
few_last : (c : Counts) (before : List Piece) (p : Piece) → AreFew c (before ++ p ∷ []) → HasNodeLeft c (before ++ p ∷ []) p
few_last c before p h = subst (λ o. IfSome o (HasNodeLeft c (before ++ p ∷ []))) (last-append before p) h.pending

few_next : (c : Counts) (before : List Piece) (p : Piece) → pair_total is_linear (before ++ p ∷ []) ≤ 2 ^ 22
    → pair_total is_suffix (before ++ p ∷ []) ≤ 2 ^ 22 → node_total c (before ++ p ∷ []) ≤ 2 ^ 22
    → HasNodeLeft c (before ++ p ∷ []) p → suffix_count (before ++ p ∷ []) ≤ 1024 → AreFew c (before ++ p ∷ [])
few_next c before p linear values nodes pending suffixes =
    record { linear = linear; values = values; nodes = nodes; pending = subst (λ o. IfSome o (HasNodeLeft c (before ++ p ∷ []))) (sym (last-append before p)) pending; suffixes = suffixes }

-- ---- all that is known

pub record AreKept (o : List ℤ) (c : Counts) (pieces : List Piece) : Type 0 where
  pub clean : AreClean c pieces
  pub good : AreGood o c [] pieces
  pub few : AreFew c pieces

pub kept_none : (o : List ℤ) (c : Counts) → AreKept o c []
unfolding last_piece
kept_none o c = record { clean = clean_none c; good = tt; few = record { linear = omega arith; values = omega arith; nodes = omega arith; pending = tt; suffixes = omega arith } }

-- ---- a head

none_left : (c : Counts) (head : Head) (name : List ℕ) (line : ℕ) (P : Pending → Type 0) → IfSome (piece_pending (new_piece head name line)) P
none_left c head name line P = let none = begun c head name line in subst (λ o. IfSome o P) none.pending tt

good_begun : (o : List ℤ) (c : Counts) (before : List Piece) (head : Head) (name : List ℕ) (line : ℕ) → IsGoodHead head name → IsGoodPiece o c before (new_piece head name line)
good_begun o c before head name line g =
    record {
      head = g;
      known = subst (λ ns. All (IsNodeKnown c.n_var (draft_of o c before).definitions) (only_nodes ns)) (sym (no_nodes c head name line)) (λ k d lt. absurd (omega (arith, lt)));
      whole = λ w. subst (All (λ (t : Term). is_whole t.1 ≡ true)) (sym (no_pairs head name line)) (λ k d lt. absurd (omega (arith, lt)));
      intervals = λ i. record { count = refl; most = omega arith; in_order = λ k d lt. absurd (omega (arith, lt)); units = λ s j i lt. absurd (omega (arith, lt)) };
    }

room_for : (limit : ℕ) (counts : Bool) (n m : ℕ) → (counts && nat_le limit n) ≡ false → m ≡ cond counts (n + 1) n → n ≤ limit → m ≤ limit
room_for limit counts n m room e few = grind (arith, nat_tests, room, e, few)

few_begun : (c : Counts) (pieces : List Piece) (head : Head) (name : List ℕ) (line : ℕ)
    → (is_suffix head && nat_le 1024 (suffix_count pieces)) ≡ false → AreFew c pieces
    → AreFew c (pieces ++ new_piece head name line ∷ [])
few_begun c pieces head name line room h =
    let linear = pairs_begun is_linear pieces head name line in
    let values = pairs_begun is_suffix pieces head name line in
    let nodes = nodes_begun c pieces head name line in
    few_next c pieces (new_piece head name line) (omega (arith, linear, h.linear)) (omega (arith, values, h.values)) (omega (arith, nodes, h.nodes)) (none_left c head name line _)
    (room_for 1024 (is_suffix head) (suffix_count pieces) _ room (sym (count_begun pieces head name line)) h.suffixes)

kept_head : (o : List ℤ) (c : Counts) (pieces : List Piece) (row : NumberedRow) → HasNoMark (name_in (row_words row))
    → AreKept o c pieces → AreClean c (with_row c pieces row) → is_head (row_words row) ≡ true
    → first_reason (head_tests c pieces (row_words row)) ≡ None
    → AreKept o c (with_row c pieces row)
unfolding head_tests
kept_head o c pieces row unmarked h clean is fine =
    let words = row_words row in
    let formed = formed_head_tests c pieces (name_in words) (head_of c words) in
    by (head_of c words) refl (good_head c words unmarked) (none_second (head_form_tests c words) formed
    (none_head (not (is_nothing (awaited_of c pieces))) ShortSegment (head_form_tests c words ++ formed) fine).1)
  where
    by : (head : Option Head) → head_of c (row_words row) ≡ head → IfSome head (MayBeGood (row_words row))
        → first_reason (formed_head_tests c pieces (name_in (row_words row)) (head_of c (row_words row))) ≡ None
        → AreKept o c (with_row c pieces row)
    by None e good formed = rw (is, e) h
    by (Some head) e good formed =
        let name = name_in (row_words row) in
        let none = none_each (formed_head_tests c pieces name (Some head)) (rw e at formed) in
        record {
          clean = clean;
          good = rw (is, e) (good_whole o c [] pieces (new_piece head name row.line) h.good (good_begun o c pieces head name row.line (good none.1.0)));
          few = rw (is, e) (few_begun c pieces head name row.line none.1.1.1.0 h.few);
        }

-- ---- a row more in the last piece

abbrev AreWhole : List Term → Type 0
AreWhole ts = All (λ t. is_whole t.1 ≡ true) ts

whole_value : (limit : ℕ) (words : List (List ℕ)) → first_reason (pair_form_tests limit true words) ≡ None → IfSome {T = Term} (pair_in words) (λ t. is_whole t.1 ≡ true)
unfolding pair_form_tests pair_in
whole_value limit words fine =
    let none = none_each (pair_form_tests limit true words) fine in
    by (whole_of (word_at words 0)) (dec_of (word_at words 1)) none.1.1.1.0
  where
    by : (i : Option ℕ) (d : Option Dec) → (true && not (option_map_or is_whole d true)) ≡ false → IfSome {T = Term} (option_and_then (λ i. option_map (λ d. (i, d)) d) i) (λ t. is_whole t.1 ≡ true)
    by None d f = tt
    by (Some i) None f = tt
    by (Some i) (Some d) f = not-false (is_whole d) f

-- an interval
record IsGoodInterval (c : Counts) (p : Piece) (words : List (List ℕ)) : Type 0 where
  interval : Interval
  says : interval_in words ≡ Some interval
  in_order : IsOrdered interval
  unit : wants_unit c p ≡ true → is_within_unit interval ≡ true

good_interval : (c : Counts) (p : Piece) (words : List (List ℕ)) → first_reason (interval_tests c p words) ≡ None → IsGoodInterval c p words
unfolding interval_tests interval_form_tests
good_interval c p words fine =
    let none = none_each (interval_form_tests (is_sides p.head) (wants_unit c p) words) fine in
    by (interval_in words) refl none.1.1.0 none.1.1.1.0 none.1.1.1.1.0
  where
    by : (i : Option Interval) → interval_in words ≡ i → is_none i ≡ false → option_map_or is_empty i false ≡ false
        → (wants_unit c p && not (option_map_or is_within_unit i true)) ≡ false → IsGoodInterval c p words
    by None e n f u = absurd cc
    by (Some i) e n f u = record { interval = i; says = e; in_order = ordered i f; unit = λ w. grind (arith, u, w) }

-- what holds of each by its place, with one more
push_at : {X : Type 0} (P : ℕ → X → Type 0) (xs : List X) (x : X)
    → ((j : ℕ) (d : X) → j < length xs → P j (get_or xs j d)) → P (length xs) x → (j : ℕ) (d : X)
    → j < length (xs ++ x ∷ []) → P j (get_or (xs ++ x ∷ []) j d)
push_at P [] x all last zero d lt = last
push_at P [] x all last (suc j) d lt = absurd (omega (arith, lt))
push_at P (y ∷ xs) x all last zero d lt = all 0 d (omega arith)
push_at P (y ∷ xs) x all last (suc j) d lt = push_at (λ k. P (suc k)) xs x (λ k e l. all (suc k) e (omega (arith, l))) last j d (omega (arith, lt))

longer_intervals : (c : Counts) (p : Piece) (row : NumberedRow) → length p.rows < line_count c p.head → IsGoodInterval c p (row_words row) → AreGoodIntervals c p → AreGoodIntervals c (longer p row)
longer_intervals c p row within i h =
    let is : piece_intervals (longer p row) ≡ piece_intervals p ++ i.interval ∷ [] =
    filter_map-append (λ (r : NumberedRow). interval_in (row_words r)) p.rows (row ∷ [])
    ∙ ap (λ x. piece_intervals p ++ cons_option x []) i.says in
    let size = length-append (piece_intervals p) (i.interval ∷ []) in
    let rows = length-append p.rows (row ∷ []) in
    let Unit_at : ℕ → Interval → Type 0 = λ j x. is_binary (variable_kind c j) ≡ true → is_within_unit x ≡ true in
    record {
      count = omega (arith, ap (length {A = Interval}) is, size, rows, h.count);
      most = omega (arith, rows, within);
      in_order = subst (All IsOrdered) (sym is) (All-push IsOrdered (piece_intervals p) i.interval h.in_order i.in_order);
      units = λ s. subst (λ xs. (j : ℕ) (d : Interval) → j < length xs → Unit_at j (get_or xs j d)) (sym is)
          (push_at Unit_at (piece_intervals p) i.interval (h.units s) (λ b. i.unit (rw s (subst (λ k. is_binary (variable_kind c k) ≡ true) h.count b))));
    }

tree_no_intervals : (h : Head) → has_tree h ≡ true → line_kind h ≡ IntervalLine → ⊥
tree_no_intervals Sides e f = cc
tree_no_intervals Bounds e f = cc
tree_no_intervals (Body i) e f = let clash : Pair ≡ IntervalLine = f in cc
tree_no_intervals (Objective k m) e f = let clash : Pair ≡ IntervalLine = f in cc
tree_no_intervals (DefinitionHead i j u) e f = let clash : Pair ≡ IntervalLine = f in cc
tree_no_intervals head e f = cc

module _ (o : List ℤ) (c : Counts) (before : List Piece) (p : Piece) (row : NumberedRow) (h : AreKept o c (before ++ p ∷ [])) (clean : AreClean c (before ++ longer p row ∷ [])) where
  abbrev now : List Piece
  now = before ++ p ∷ []

  abbrev q : Piece
  q = longer p row

  abbrev next : List Piece
  next = before ++ q ∷ []

  abbrev Known : List Node → Type 0
  Known ns = All (IsNodeKnown c.n_var (draft_of o c before).definitions) ns

  g : IsGoodPiece o c before p
  g = (good_parts o c [] before p h.good).1

  kept_longer : Known (only_nodes (piece_nodes c q)) → (wants_whole_values p.head ≡ true → AreWhole (piece_pairs q)) → (line_kind p.head ≡ IntervalLine → AreGoodIntervals c q)
      → pair_total is_linear next ≤ 2 ^ 22 → pair_total is_suffix next ≤ 2 ^ 22 → node_total c next ≤ 2 ^ 22 → HasNodeLeft c next q → AreKept o c next
  kept_longer known whole intervals linear values nodes left = record {
    clean = clean;
    good = good_whole o c [] before q (good_parts o c [] before p h.good).0 (record { head = g.head; known = known; whole = whole; intervals = intervals });
    few = few_next c before q linear values nodes left (let same = suffixes_longer before p row in omega (arith, same, h.few.suffixes));
  }

  -- a line before an expression
  kept_early : length p.rows < line_count c p.head → (wants_whole_values p.head ≡ true → AreWhole (piece_pairs q)) → (line_kind p.head ≡ IntervalLine → AreGoodIntervals c q)
      → pair_total is_linear next ≤ 2 ^ 22 → pair_total is_suffix next ≤ 2 ^ 22 → AreKept o c next
  kept_early within whole intervals linear values =
      let same = sym (early_tree c p row within) in
      let nodes = nodes_early c before p row within in
      kept_longer (subst (λ rs. Known (only_nodes (nodes_of c.n_var rs))) same g.known) whole intervals linear values (omega (arith, nodes, h.few.nodes))
      (subst (λ n. IfSome (piece_pending q) (λ x. n < 2 ^ 22)) (sym nodes) (subst (λ rs. IfSome (pending_from None rs) (λ x. node_total c now < 2 ^ 22)) same (few_last c before p h.few)))

  kept_pair : awaited_in c p ≡ Pair → first_reason (pair_tests c now p (row_words row)) ≡ None → AreKept o c next
  unfolding pair_tests
  kept_pair e fine =
      let words = row_words row in
      let b = before_lines c p Pair e refl in
      let form = pair_form_tests (index_limit c p.head) (wants_whole_values p.head) words in
      let rest : Tests = (holds_once p.head && has_index (piece_pairs p) (unwrap_or (whole_of (word_at words 0)) 0), RepeatedIndex) ∷ (is_full now p.head, TooLarge) ∷ [] in
      let formed = none_first form rest fine in
      let pair = pair_found (index_limit c p.head) (wants_whole_values p.head) words formed in
      let once = none_each rest (none_second form rest fine) in
      let full = or_parts (is_linear p.head && nat_le most_terms (pair_total is_linear now)) (is_suffix p.head && nat_le most_terms (pair_total is_suffix now)) once.1.0 in
      let early : length p.rows < pair_count p.head = subst (λ k. length p.rows < k) (pair_lines c p.head b.same_kind) b.within in
      let pairs : piece_pairs q ≡ piece_pairs p ++ pair.term ∷ [] = row_more.early_pairs p row pair.term early pair.says in
      let more : length (piece_pairs q) ≡ length (piece_pairs p) + 1 = ap length pairs ∙ length-append (piece_pairs p) (pair.term ∷ []) in
      let whole_term : wants_whole_values p.head ≡ true → is_whole pair.term.1 ≡ true = λ w.
      subst (λ o. IfSome {T = Term} o (λ t. is_whole t.1 ≡ true)) pair.says
      (whole_value (index_limit c p.head) words (subst (λ k. first_reason
      (pair_form_tests (index_limit c p.head) k words) ≡ None) w formed)) in
      kept_early b.within (λ w. subst AreWhole (sym pairs) (All-push (λ (t : Term). is_whole t.1 ≡ true) (piece_pairs p)
      pair.term (g.whole w) (whole_term w))) (λ i. absurd
      (let clash : Pair ≡ IntervalLine = sym b.same_kind ∙ i in cc))
      (room_for (2 ^ 22) (is_linear p.head) (pair_total is_linear now) _ full.0 (pairs_longer is_linear before p row 1 more) h.few.linear)
      (room_for (2 ^ 22) (is_suffix p.head) (pair_total is_suffix now) _ full.1 (pairs_longer is_suffix before p row 1 more) h.few.values)

  same_total : (counts : Head → Bool) → piece_pairs q ≡ piece_pairs p → pair_total counts now ≤ 2 ^ 22 → pair_total counts next ≤ 2 ^ 22
  same_total counts pairs few = let same = same_totals counts before p row pairs in omega (arith, same, few)

  same_whole : piece_pairs q ≡ piece_pairs p → wants_whole_values p.head ≡ true → AreWhole (piece_pairs q)
  same_whole pairs w = subst AreWhole (sym pairs) (g.whole w)

  -- a line that is no pair, of a head without pairs
  kept_plain : length p.rows < line_count c p.head → pair_count p.head ≡ 0 → (line_kind p.head ≡ IntervalLine → AreGoodIntervals c q) → AreKept o c next
  kept_plain within none intervals =
      let pairs = late_pairs p row (none_within p none) in
      kept_early within (same_whole pairs) intervals (same_total is_linear pairs h.few.linear) (same_total is_suffix pairs h.few.values)

  -- a row of an expression, with the nodes and the pending opcode that it adds
  kept_tree : (x : Option Pending) → IsInTree c p → piece_pending p ≡ x → Known (only_nodes (last_nodes c.n_var x row)) → node_total c now + length (last_nodes c.n_var x row) ≤ 2 ^ 22
      → IfSome (last_pending x row) (λ y. node_total c now + length (last_nodes c.n_var x row) < 2 ^ 22) → AreKept o c next
  kept_tree x place e known room left =
      let new = last_nodes c.n_var x row in
      let nodes : piece_nodes c q ≡ piece_nodes c p ++ new = tree_nodes c p row place ∙ ap (λ y. piece_nodes c p ++ last_nodes c.n_var y row) e in
      let only : only_nodes (piece_nodes c q) ≡ only_nodes (piece_nodes c p) ++ only_nodes new = ap only_nodes nodes ∙ map-append (λ (n : Placed). n.node) (piece_nodes c p) new in
      let after : piece_pending q ≡ last_pending x row = ap (pending_from None) (late_tree p row place.tree place.early) ∙ pending-more None (tree_rows p) row ∙ ap (λ y. last_pending y row) e in
      let total : node_total c next ≡ node_total c now + length new =
      omega (
        arith,
        nodes-append c before q,
        nodes-append c before p,
        ap (length {A = Placed}) nodes,
        length-append (piece_nodes c p) new,
      ) in
      let pairs = late_pairs p row place.early in
      kept_longer (subst Known (sym only) (All-append (IsNodeKnown c.n_var (draft_of o c before).definitions) (only_nodes (piece_nodes c p)) (only_nodes new) g.known known)) (same_whole pairs)
      (λ i. absurd (tree_no_intervals p.head place.tree i)) (same_total is_linear pairs h.few.linear) (same_total is_suffix pairs h.few.values) (omega (arith, total, room))
      (subst (λ n. IfSome (piece_pending q) (λ y. n < 2 ^ 22)) (sym total) (subst (λ y. IfSome y (λ z. node_total c now + length new < 2 ^ 22)) (sym after) left))

  one_known : (n : Node) → IsNodeKnown c.n_var (draft_of o c before).definitions n → Known (n ∷ [])
  one_known n k = All-push (IsNodeKnown c.n_var (draft_of o c before).definitions) [] n (λ k d lt. absurd (omega (arith, lt))) k

  kept_node : awaited_in c p ≡ NodeLine → first_reason (node_tests c (draft_of o c now) now (row_words row)) ≡ None → AreKept o c next
  unfolding node_tests
  kept_node e fine =
      let words = row_words row in
      let i = inside_tree c p NodeLine e refl in
      let d = draft_of o c now in
      let same : d ≡ draft_of o c before = draft_before o c before p (tree_says p.head i.place.tree) (ap is_nothing e) in
      let last : Tests = (nat_le (2 ^ 22) (node_total c now), TooLarge) ∷ [] in
      let form = none_first (node_form_tests c d words) last fine in
      let room = leb-false (2 ^ 22) (node_total c now) (none_each last (none_second (node_form_tests c d words) last fine)).0 in
      by (node_in c.n_var words) (opcode_in words) refl refl (kept_tree None i.place (node_awaited (piece_nodes c p) (piece_pending p) i.awaits).0)
      (λ node is. subst (λ (x : Draft). IsNodeKnown c.n_var x.definitions node) same (node_known c d words node is form)) room
    where
      by : (n : Option Node) (k : Option ℕ) → node_in c.n_var (row_words row) ≡ n → opcode_in (row_words row) ≡ k
          → (Known (only_nodes (last_nodes c.n_var None row))
          → node_total c now + length (last_nodes c.n_var None row) ≤ 2 ^ 22
          → IfSome (last_pending None row) (λ y. node_total c now + length (last_nodes c.n_var None row) < 2 ^ 22)
          → AreKept o c next)
          → ((node : Node) → node_in c.n_var (row_words row) ≡ Some node → IsNodeKnown c.n_var (draft_of o c before).definitions node) → node_total c now < 2 ^ 22 → AreKept o c next
      by None None n e kept known room = kept (rw n (λ k d lt. absurd (omega (arith, lt)))) (rw n (omega (arith, room))) (rw e tt)
      by None (Some k) n e kept known room = kept (rw n (λ k d lt. absurd (omega (arith, lt)))) (rw n (omega (arith, room))) (rw (n, e) (omega (arith, room)))
      by (Some node) None n e kept known room = kept (rw n (one_known node (known node n))) (rw n (omega (arith, room))) (rw e tt)
      by (Some node) (Some k) n e kept known room = absurd (let counted = opcode_counted c.n_var (row_words row) k e in let clash : None ≡ Some node = sym counted.none ∙ n in cc)

  kept_count : awaited_in c p ≡ OperandCount → AreKept o c next
  kept_count e = by (piece_pending p) refl (inside_tree c p OperandCount e refl) (few_last c before p h.few)
    where
      by : (x : Option Pending) → piece_pending p ≡ x → IsInside c p OperandCount → HasNodeLeft c now p → AreKept o c next
      by None s i left = absurd (no_count (piece_nodes c p) (subst (λ x. tree_awaits (piece_nodes c p) x ≡ OperandCount) s i.awaits))
      by (Some x) s i left =
          let room : node_total c now < 2 ^ 22 = subst (λ x. IfSome x (λ y. node_total c now < 2 ^ 22)) s left in
          kept_tree (Some x) i.place s (one_known (with_operands x row).node tt) (omega (arith, room)) tt

  -- any row
  kept_line : (kind : Awaited) → awaited_in c p ≡ kind → first_reason (awaited_tests c (draft_of o c now) now p (row_words row) kind) ≡ None → AreKept o c next
  kept_line Nothing e fine = absurd cc
  kept_line Pair e fine = kept_pair e fine
  kept_line ColumnCount e fine =
      let b = before_lines c p ColumnCount e refl in
      kept_plain b.within (plain_lines p.head ColumnCount b.same_kind refl refl).0 (λ i. absurd (let clash : ColumnCount ≡ IntervalLine = sym b.same_kind ∙ i in cc))
  kept_line IntervalLine e fine =
      let b = before_lines c p IntervalLine e refl in
      kept_plain b.within (plain_lines p.head IntervalLine b.same_kind refl refl).0 (λ i. longer_intervals c p row b.within (good_interval c p (row_words row) fine) (g.intervals i))
  kept_line NodeLine e fine = kept_node e fine
  kept_line OperandCount e fine = kept_count e

pub kept_row : (o : List ℤ) (c : Counts) (pieces : List Piece) (row : NumberedRow) → HasNoMark (name_in (row_words row))
    → AreKept o c pieces → first_reason (row_tests c (draft_of o c pieces) pieces (row_words row)) ≡ None
    → AreKept o c (with_row c pieces row)
unfolding row_tests
kept_row o c pieces row unmarked h fine = by (is_head (row_words row)) (last_piece pieces) refl refl
  where
    d : Draft
    d = draft_of o c pieces

    clean : AreClean c (with_row c pieces row)
    clean = clean_row c d pieces row h.clean fine

    by : (t : Bool) (last : Option Piece) → is_head (row_words row) ≡ t → last_piece pieces ≡ last → AreKept o c (with_row c pieces row)
    by true last is e = kept_head o c pieces row unmarked h clean is (rw is at fine)
    by false None is e = absurd (let none = rw (is, e) at fine in cc)
    by false (Some p) is e =
        let parts = split pieces p e in
        let tests : first_reason (awaited_tests c d pieces p (row_words row) (awaited_of c pieces)) ≡ None = rw (is, e) at fine in
        let kind = awaited-last c pieces p e in
        let after : with_row c pieces row ≡ parts.before ++ longer p row ∷ [] = rw is (ap (λ ps. extended ps row) parts.whole ∙ extended-append parts.before p row) in
        let there = subst (λ k. first_reason (awaited_tests c d pieces p (row_words row) k) ≡ None) kind tests in
        let whole = subst (AreKept o c) parts.whole h in
        subst (AreKept o c) (sym after)
        (kept_line o c parts.before p row whole (subst (AreClean c) after clean) (awaited_in c p) refl
        (subst (λ ps. first_reason (awaited_tests c (draft_of o c ps) ps p (row_words row) (awaited_in c p)) ≡ None) parts.whole there))
