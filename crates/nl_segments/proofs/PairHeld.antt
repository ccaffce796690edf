-- What is held after a line that comes before any expression, after the number of a column, and after an interval.
use Rattle.std.proofs.Common.{◌≡◌, ◌∙◌, ℕ, ◌+◌, ◌<◌, ◌≤◌, ◌==◌, Bool, true, false, List, [], ◌∷◌, ◌++◌, length, refl, sym, ap, subst, arith, nat_lt, Option, Some, None, get_or, All, ℤ, ◌-◌, map}
use Rattle.std.specs.Prelude.{IfSome, if◌then◌else◌, ◌^◌, Ok}
use Rattle.std.proofs.lemmas.Bool.{ltb-true, cond_both}
use Rattle.nl_model.specs.declared.header_counts.Counts.{Counts}
use Rattle.nl_model.specs.Draft.{Draft}
use Rattle.nl_model.specs.Nodes.{awaited}
use Rattle.nl_model.specs.Rules.{AreTermsBelow, AreIndicesApart, most_terms}
use Rattle.nl_lines.specs.declared.awaited.Awaited.{Awaited}
use Rattle.nl_lines.specs.declared.awaited.Awaited.TheVariants.{Nothing, Pair, ColumnCount, Interval as IntervalLine, Node as NodeLine}
use Rattle.nl_lines.specs.declared.head.Head.{Head}
use Rattle.nl_lines.specs.Rows.{NumberedRow, row_words}
use Rattle.nl_lines.specs.declared.pending.Pending.{Pending}
use Rattle.nl_lines.specs.Nodes.{Placed, nodes_of, only_nodes}
use Rattle.nl_lines.specs.Pieces.{Piece, awaited_in, is_complete, is_nothing, line_count, line_kind, has_tree}
use Rattle.nl_lines.specs.Pieces.{pair_count, piece_nodes, piece_pairs, piece_pending, tree_awaits, interval_in}
use Rattle.nl_lines.specs.Pieces.{piece_intervals}
use Rattle.nl_lines.specs.declared.head.Head.TheVariants.{ColumnCounts, Sides, Bounds}
use Rattle.std.proofs.lemmas.List.{append_assoc, append-nil, take-append-le}
use Rattle.nl_lines.specs.Tests.{all_column_counts, column_counts, index_limit, is_linear, is_suffix, pair_total}
use Rattle.nl_lines.specs.Tests.{node_total, column_tests, holds_once, interval_form_tests, interval_tests, is_binary}
use Rattle.nl_lines.specs.Tests.{is_sides}
use Rattle.nl_lines.specs.Saying.{place_lines, draft_of, said_by}
use Rattle.nl_segments.specs.Grammar.{counts_of, said, Standing}
use Rattle.nl_segments.specs.Current.{Current, IsCurrent, current_awaits, less_line}
use Rattle.nl_segments.specs.InsideLineSteps.{unless_complete, with_interval, HasRoom, next_interval_tests}
use Rattle.nl_model.specs.UseCounts.{use_count}
use Rattle.nl_lines.specs.PairTests.{IsMarked}
use Rattle.nl_lines.specs.NodeRows.{IsNodeKnown}
use Rattle.nl_segments.specs.Held.{Body, AreSeen, IsHeld, IsLast, IsNodeLeft, IsOpen, IsSoundPiece, AreSound, HoldsSome, IsAwaiting, TakesRow, words_refusal}
use Rattle.nl_lines.proofs.RowLemmas.{early_tree, late_pairs}
use Rattle.nl_segments.proofs.CurrentLemmas.{awaits, with_line}
use Rattle.nl_lines.proofs.DraftLemmas.{draft_counts, with_bound, with_column, with_side}
use Rattle.nl_lines.proofs.PieceLemmas.{longer, last-append, lines-append, draft-append}
use Rattle.nl_segments.proofs.PairLines.{place_same, at, sound_longer, are_seen_longer, suffixes_longer, nodes_longer, pairs_with, opened, awaiting, awaits_as, judged_by, last_sound, last_taken}
use Rattle.std.specs.List.{filter_map, cons_option}
use Rattle.std.proofs.lemmas.List.Elements.{filter_map-append}
use Rattle.nl_header.specs.Head.{options_in}
use Rattle.linear_program.specs.declared.interval.Interval.{Interval}
use Rattle.nl_model.specs.Kinds.{variable_kind}
use Rattle.nl_lines.specs.declared.fault.NlReason.{NlReason}
use Rattle.exact_numbers.specs.Numbers.{whole_of}
use Rattle.text_base.specs.Words.{word_at}
use Rattle.nl_lines.specs.Heads.{is_head, number_at}
use Rattle.text_base.specs.Judged.{first_reason}
use Rattle.nl_lines.proofs.FreshLaw.{none_before, gave_none}

-- ---- a line before any expression is awaited

abbrev pub is_line_kind : Awaited → Bool
is_line_kind Pair = true
is_line_kind ColumnCount = true
is_line_kind IntervalLine = true
is_line_kind kind = false

-- before its lines are there, it awaits one of them
pub record IsBefore (c : Counts) (p : Piece) (kind : Awaited) : Type 0 where
  pub within : length p.rows < line_count c p.head
  pub same_kind : line_kind p.head ≡ kind

abbrev pub is_pair : Awaited → Bool
is_pair Pair = true
is_pair kind = false

-- where it is no pair, the piece has none
pub plain_lines : (h : Head) (kind : Awaited) → line_kind h ≡ kind → is_line_kind kind ≡ true → is_pair kind ≡ false → (pair_count h ≡ 0) × (holds_once h ≡ false)
plain_lines h kind e line other = of_head h (ap is_line_kind e ∙ line) (ap is_pair e ∙ other)
  where
    of_head : (h : Head) → is_line_kind (line_kind h) ≡ true → is_pair (line_kind h) ≡ false → (pair_count h ≡ 0) × (holds_once h ≡ false)
    of_head Sides l o = (refl, refl)
    of_head Bounds l o = (refl, refl)
    of_head (ColumnCounts n) l o = (refl, refl)
    of_head head l o = absurd cc

pub never : true ≡ false → ⊥
never e = cc

no_line : (ns : List Placed) (q : Option Pending) → is_line_kind (tree_awaits ns q) ≡ false
no_line ns (Some q) = refl
no_line ns None = cond_both (awaited (only_nodes ns) == 0) Nothing NodeLine (λ a. is_line_kind a ≡ false) (λ e. refl) (λ e. refl)

pub before_lines : (c : Counts) (p : Piece) (kind : Awaited) → awaited_in c p ≡ kind → is_line_kind kind ≡ true → IsBefore c p kind
unfolding awaited_in
before_lines c p kind e line = by (nat_lt (length p.rows) (line_count c p.head)) (has_tree p.head) refl e
  where
    by : (t u : Bool) → nat_lt (length p.rows) (line_count c p.head) ≡ t
        → (if t then line_kind p.head else (if u then tree_awaits (piece_nodes c p) (piece_pending p) else Nothing))
        ≡ kind → IsBefore c p kind
    by true u q is = record { within = ltb-true _ _ q; same_kind = is }
    by false true q is = absurd (never (sym (ap is_line_kind is ∙ line) ∙ no_line (piece_nodes c p) (piece_pending p)))
    by false false q is = absurd (never (sym (ap is_line_kind is ∙ line)))

pub record IsEarly (c : Counts) (p : Piece) (cur : Current) (kind : Awaited) : Type 0 where
  pub left : 0 < cur.left
  pub within : length p.rows < line_count c p.head
  pub same_kind : line_kind p.head ≡ kind

pub early : (c : Counts) (p : Piece) (cur : Current) (kind : Awaited) → IsCurrent c p cur → current_awaits cur ≡ kind → is_line_kind kind ≡ true → IsEarly c p cur kind
early c p cur kind h e is =
    let b = before_lines c p kind (sym (awaits c p cur h) ∙ e) is in
    record { left = omega (arith, h.left, b.within); within = b.within; same_kind = b.same_kind }

-- ---- the piece with the line

pub last_closed : (c : Counts) (d : Draft) (name : Option (List ℕ)) (q : Piece) (cur : Current) (held : Option Current)
    → IsCurrent c q cur → held ≡ unless_complete cur → (is_complete c q ≡ false → IsOpen c d name q cur)
    → IsLast c d name (Some q) held
last_closed c d name q cur held h e open_if =
    let same : is_nothing (current_awaits cur) ≡ is_complete c q = ap is_nothing (awaits c q cur h) in
    subst (IsLast c d name (Some q)) (sym e) (cond_both (is_nothing (current_awaits cur)) None (Some cur) (IsLast c d name (Some q)) (λ t. sym same ∙ t) (λ t. open_if (sym same ∙ t)))

pub left_closed : (cur : Current) (held : Option Current) (nodes : ℕ) → held ≡ unless_complete cur → IfSome cur.pending (λ q. nodes < 2 ^ 22) → IsNodeLeft held nodes
left_closed cur held nodes e h = subst (λ o. IsNodeLeft o nodes) (sym e) (cond_both (is_nothing (current_awaits cur)) None (Some cur) (λ o. IsNodeLeft o nodes) (λ t. tt) (λ t. h))

-- what a row that is no head changes, where p is the last piece
pub record Changes (header : List (List (List ℕ))) (before : List Piece) (p : Piece) (row : NumberedRow) (old new : Body) : Type 0 where
  pub sound : IsSoundPiece (counts_of (at header [])) (longer p row)
  pub draft : new.draft ≡ said (at header (before ++ longer p row ∷ []))
  pub last : IsLast (counts_of (at header [])) new.draft new.name (Some (longer p row)) new.current
  pub marks : IsMarked (counts_of (at header [])) new.marks (longer p row)
  pub room : length new.marks ≡ length old.marks
  pub nodes : new.nodes ≡ node_total (counts_of (at header [])) (before ++ longer p row ∷ [])
  pub linear : new.linear ≡ pair_total is_linear (before ++ longer p row ∷ [])
  pub values : new.values ≡ pair_total is_suffix (before ++ longer p row ∷ [])
  pub columns : new.columns ≡ all_column_counts (before ++ longer p row ∷ [])
  pub uses : (j : ℕ) → j < (counts_of (at header [])).n_var → get_or new.uses j 0 ≡ use_count new.draft.terms j
  pub users : length new.uses ≡ length old.uses
  pub places : new.places ≡ place_lines (counts_of (at header [])) (before ++ longer p row ∷ [])
  pub seen : new.seen ≡ old.seen
  pub suffixes : new.suffixes ≡ old.suffixes
  pub few : IsNodeLeft new.current new.nodes
  pub few_terms : new.linear ≤ most_terms

pub held_longer : (header : List (List (List ℕ))) (before : List Piece) (p : Piece) (row : NumberedRow) (old new : Body)
    → IsHeld (at header (before ++ p ∷ [])) old → Changes header before p row old new
    → IsHeld (at header (before ++ longer p row ∷ [])) new
held_longer header before p row old new h g =
    let c = counts_of (at header []) in
    let ps = before ++ longer p row ∷ [] in
    record {
      body = h.body;
      sound = sound_longer c before p row h.sound g.sound;
      draft = g.draft;
      counts = ap (λ d. d.counts) g.draft ∙ draft_counts _ c ps;
      last = rw (last-append before (longer p row)) g.last;
      marks = rw (last-append before (longer p row)) g.marks;
      room = λ head range. subst (λ n. index_limit c head ≤ n) (sym g.room) (h.room head range);
      seen = subst (λ s. AreSeen c s ps) (sym g.seen) (are_seen_longer c old before p row h.seen);
      nodes = g.nodes;
      linear = g.linear;
      values = g.values;
      suffixes = g.suffixes ∙ h.suffixes ∙ sym (suffixes_longer before p row);
      columns = g.columns;
      uses = g.uses;
      users = g.users ∙ h.users;
      places = g.places;
      few = g.few;
      few_terms = g.few_terms;
    }

-- a line before any expression is no node
pub nodes_early : (c : Counts) (before : List Piece) (p : Piece) (row : NumberedRow)
    → length p.rows < line_count c p.head → node_total c (before ++ longer p row ∷ []) ≡ node_total c (before ++ p ∷ [])
nodes_early c before p row within = nodes_longer c before p row (ap (λ rs. nodes_of c.n_var rs) (early_tree c p row within))

-- ---- a line that is no pair

pub same_totals : (counts : Head → Bool) (before : List Piece) (p : Piece) (row : NumberedRow)
    → piece_pairs (longer p row) ≡ piece_pairs p → pair_total counts (before ++ longer p row ∷ [])
    ≡ pair_total counts (before ++ p ∷ [])
same_totals counts before p row e = pairs_with counts before (longer p row) ∙ ap (λ ts. pair_total counts before + (if counts p.head then length ts else 0)) e ∙ sym (pairs_with counts before p)

pub none_within : (p : Piece) → pair_count p.head ≡ 0 → pair_count p.head ≤ length p.rows
none_within p e = omega (arith, e)

-- the pairs of the piece are there
pub sound_kept : (c : Counts) (p : Piece) (row : NumberedRow) → pair_count p.head ≤ length p.rows → IsSoundPiece c p → IsSoundPiece c (longer p row)
sound_kept c p row late h =
    let same = late_pairs p row late in
    record {
      range = h.range;
      below = subst (AreTermsBelow (index_limit c p.head)) (sym same) h.below;
      once = λ t. subst AreIndicesApart (sym same) (h.once t);
      pairs = ap length same ∙ h.pairs ∙ sym (ap (length {A = NumberedRow}) (take-append-le (pair_count p.head) p.rows (row ∷ []) late));
    }

pub columns-append : (before : List Piece) (p : Piece) → all_column_counts (before ++ p ∷ []) ≡ all_column_counts before ++ column_counts p p.head
columns-append [] p = append-nil (column_counts p p.head)
columns-append (q ∷ before) p =
    ap (λ ns. column_counts q q.head ++ ns) (columns-append before p) ∙ sym (append_assoc (column_counts q q.head) (all_column_counts before) (column_counts p p.head))

-- the line of no column
pub columns_kept : (before : List Piece) (p : Piece) (row : NumberedRow) → (line_kind p.head ≡ ColumnCount → ⊥) → all_column_counts (before ++ longer p row ∷ []) ≡ all_column_counts (before ++ p ∷ [])
columns_kept before p row other = columns-append before (longer p row) ∙ ap (λ ns. all_column_counts before ++ ns) (by p.head refl) ∙ sym (columns-append before p)
  where
    by : (h : Head) → p.head ≡ h → column_counts (longer p row) p.head ≡ column_counts p p.head
    by (ColumnCounts n) e = absurd (other (ap line_kind e))
    by head e = rw e refl

pub places_no_pair : (c : Counts) (before : List Piece) (p : Piece) (row : NumberedRow) → pair_count p.head ≡ 0
    → length p.rows < line_count c p.head → place_lines c (before ++ longer p row ∷ []) ≡ place_lines c (before ++ p ∷ [])
places_no_pair c before p row e within =
    lines-append c before (longer p row)
    ∙ place_same c (place_lines c before) p row p.head (ap (λ rs. map (λ n. n.line) (nodes_of c.n_var rs)) (early_tree c p row within)) (rw e refl)
    ∙ sym (lines-append c before p)

-- what is held of the piece, with the line
pub open_line : (c : Counts) (d e : Draft) (name : Option (List ℕ)) (p : Piece) (row : NumberedRow) (cur : Current)
    → IsOpen c d name p cur → length p.rows < line_count c p.head → pair_count p.head ≡ 0
    → e.definitions ≡ d.definitions → is_complete c (longer p row) ≡ false → IsOpen c e name (longer p row) (less_line cur)
open_line c d e name p row cur h within none same f =
    record {
      incomplete = f;
      current = with_line c p cur row h.current within;
      pairs = λ t. h.pairs t ∙ sym (late_pairs p row (none_within p none));
      known = subst (λ ds. All (IsNodeKnown c.n_var ds) cur.nodes) (sym same) h.known;
      named = h.named;
    }

-- ---- the numbers of columns

column_more : (before : List Piece) (p : Piece) (row : NumberedRow) (n k : ℕ) → p.head ≡ ColumnCounts n → whole_of (word_at (row_words row) 0) ≡ Some k
    → all_column_counts (before ++ longer p row ∷ []) ≡ all_column_counts (before ++ p ∷ []) ++ k ∷ []
column_more before p row n k e is =
    columns-append before (longer p row)
    ∙ ap (λ h. all_column_counts before ++ column_counts (longer p row) h) e
    ∙ ap (λ ns. all_column_counts before ++ ns) (filter_map-append (λ r. whole_of (word_at (row_words r) 0)) p.rows
    (row ∷ []) ∙ ap (λ o. filter_map (λ r. number_at (row_words r) 0) p.rows ++ cons_option o []) is)
    ∙ sym (append_assoc (all_column_counts before) (filter_map (λ r. number_at (row_words r) 0) p.rows) (k ∷ []))
    ∙ sym (ap (λ ns. ns ++ k ∷ []) (columns-append before p ∙ ap (λ h. all_column_counts before ++ column_counts p h) e))

-- the head of such lines
record IsColumnHead (h : Head) : Type 0 where
  count : ℕ
  is : h ≡ ColumnCounts count

column_head : (h : Head) → line_kind h ≡ ColumnCount → IsColumnHead h
column_head (ColumnCounts n) e = record { count = n; is = refl }
column_head head e = absurd cc

-- a line that is no pair changes the draft or the numbers of columns, where p is the last piece
with_plain_line : (header : List (List (List ℕ))) (before : List Piece) (p : Piece) (row : NumberedRow) (cur : Current)
    (kind : Awaited) (old : Body) (draft : Draft) (columns : List ℕ) (current : Option Current)
    → IsHeld (at header (before ++ p ∷ [])) old → IsOpen (counts_of (at header [])) old.draft old.name p cur → old.current ≡ Some cur → IsEarly (counts_of (at header [])) p cur kind
    → is_line_kind kind ≡ true → is_pair kind ≡ false → draft ≡ said (at header (before ++ longer p row ∷ [])) → draft.definitions ≡ old.draft.definitions → draft.terms ≡ old.draft.terms
    → columns ≡ all_column_counts (before ++ longer p row ∷ []) → current ≡ unless_complete (less_line cur)
    → IsHeld (at header (before ++ longer p row ∷ [])) (record old { draft = draft; columns = columns; current = current })
with_plain_line header before p row cur kind old draft columns current h o cur_is e line other draft_is definitions terms columns_are current_is =
    let c = counts_of (at header []) in
    let plain = plain_lines p.head kind e.same_kind line other in
    let none = plain.0 in
    let late = none_within p none in
    let pairs = late_pairs p row late in
    held_longer header before p row old (record old { draft = draft; columns = columns; current = current }) h
    (record {
      sound = sound_kept c p row late (last_sound c before p h.sound);
      draft = draft_is;
      last = last_closed c draft old.name (longer p row) (less_line cur) current
          (with_line c p cur row o.current e.within) current_is
          (open_line c old.draft draft old.name p row cur o e.within none definitions);
      marks = λ t. absurd (let once = plain.1 in cc);
      room = refl;
      linear = h.linear ∙ sym (same_totals _ before p row pairs);
      values = h.values ∙ sym (same_totals _ before p row pairs);
      columns = columns_are;
      uses = λ j lt. h.uses j lt ∙ sym (ap (λ rows. use_count rows j) terms);
      users = refl;
      places = h.places ∙ sym (places_no_pair c before p row none e.within);
      seen = refl;
      nodes = h.nodes ∙ sym (nodes_early c before p row e.within);
      suffixes = refl;
      few = left_closed (less_line cur) current old.nodes current_is (subst (λ x. IsNodeLeft x old.nodes) cur_is h.few);
      few_terms = h.few_terms;
    })

-- ---- a line of k

pub column_refused : (b : Body) (words : List (List ℕ)) (r : NlReason) → IsAwaiting ColumnCount b
    → is_head words ≡ false → first_reason (column_tests words) ≡ Some r → (s : Standing) → IsHeld s b
    → words_refusal s words ≡ Some r
column_refused b words r a plain e s h =
    let w = awaiting b ColumnCount a in
    judged_by s b w.cur words ColumnCount (opened s b w.cur w.is h) plain w.awaits_it ∙ e

pub column_step : (b : Body) (words : List (List ℕ)) (line k : ℕ) (columns : List ℕ) (current : Option Current)
    → IsAwaiting ColumnCount b → is_head words ≡ false → first_reason (column_tests words) ≡ None
    → whole_of (word_at words 0) ≡ Some k → columns ≡ b.columns ++ k ∷ []
    → IfSome b.current (λ c. current ≡ unless_complete (less_line c))
    → TakesRow b words line (Ok tt) (record b { columns = columns; current = current })
column_step b words line k columns current a plain fine is columns_are current_is =
    let w = awaiting b ColumnCount a in
    last_taken b (record b { columns = columns; current = current }) w.cur words line plain
    (λ s h. judged_by s b w.cur words ColumnCount (opened s b w.cur w.is h) plain w.awaits_it ∙ fine) (λ s row r h.
    let c = counts_of s in
    let o = opened s b w.cur w.is h in
    let held = subst (λ t. IsHeld t b) o.whole h in
    let early = early c o.piece w.cur ColumnCount o.is_open.current w.awaits_it refl in
    let head = column_head o.piece.head early.same_kind in (
      o,
      with_plain_line s.header o.before o.piece row w.cur ColumnCount b b.draft columns current held o.is_open w.is early refl refl
          (held.draft ∙ sym (with_column (options_in s.header) c o.before o.piece row head.count head.is)) refl refl
          (columns_are ∙ ap (λ ns. ns ++ k ∷ []) held.columns ∙ sym (column_more o.before o.piece row head.count k head.is (ap (λ ws. whole_of (word_at ws 0)) r.same_words ∙ is)))
          (subst (λ o. IfSome o (λ c. current ≡ unless_complete (less_line c))) w.is current_is),
    ))

-- ---- an interval

-- the head of such lines
data IsIntervalHead (h : Head) : Type 0 where
  of_constraints : h ≡ Sides → IsIntervalHead h
  of_variables : h ≡ Bounds → IsIntervalHead h

interval_head : (h : Head) → line_kind h ≡ IntervalLine → IsIntervalHead h
interval_head Sides e = of_constraints refl
interval_head Bounds e = of_variables refl
interval_head head e = absurd cc

interval_said : (o : List ℤ) (c : Counts) (before : List Piece) (p : Piece) (row : NumberedRow) (i : Interval) → IsIntervalHead p.head → interval_in (row_words row) ≡ Some i
    → draft_of o c (before ++ longer p row ∷ []) ≡ with_interval (draft_of o c (before ++ p ∷ [])) (is_sides p.head) i
interval_said o c before p row i (of_constraints e) is = with_side o c before p row i e is ∙ rw e refl
interval_said o c before p row i (of_variables e) is = with_bound o c before p row i e is ∙ rw e refl

same_parts : (d : Draft) (b : Bool) (i : Interval) → ((with_interval d b i).definitions ≡ d.definitions) × ((with_interval d b i).terms ≡ d.terms)
same_parts d true i = (refl, refl)
same_parts d false i = (refl, refl)

-- the tests of the next interval, by what is held
tests_held : (c : Counts) (p : Piece) (cur : Current) (words : List (List ℕ)) → IsCurrent c p cur → IsEarly c p cur IntervalLine → interval_tests c p words ≡ next_interval_tests c cur words
unfolding interval_tests
tests_held c p cur words h e = by (interval_head p.head e.same_kind)
  where
    by : IsIntervalHead p.head → interval_tests c p words ≡ next_interval_tests c cur words
    by (of_constraints s) = rw (h.head, s) refl
    by (of_variables s) =
        let left : cur.left ≡ c.n_var - length p.rows = h.left ∙ ap (λ x. line_count c x - length p.rows) s in
        let within : length p.rows < c.n_var = subst (λ x. length p.rows < line_count c x) s e.within in
        let place : length p.rows ≡ c.n_var - cur.left = omega arith in
        rw (h.head, s) (ap (λ (j : ℕ). interval_form_tests false (is_binary (variable_kind c j)) words) place)

judged_interval : (s : Standing) (b : Body) (cur : Current) (words : List (List ℕ)) → b.current ≡ Some cur → current_awaits cur ≡ IntervalLine → is_head words ≡ false → IsHeld s b
    → words_refusal s words ≡ first_reason (next_interval_tests (counts_of s) cur words)
judged_interval s b cur words e kind plain h =
    let o = opened s b cur e h in
    judged_by s b cur words IntervalLine o plain kind ∙ ap first_reason
    (tests_held (counts_of s) o.piece cur words o.is_open.current
    (early (counts_of s) o.piece cur IntervalLine o.is_open.current kind refl))

pub interval_refused : (b : Body) (cur : Current) (words : List (List ℕ)) (r : NlReason) → b.current ≡ Some cur
    → IsAwaiting IntervalLine b → is_head words ≡ false → first_reason (next_interval_tests b.draft.counts cur words)
    ≡ Some r
    → (s : Standing) → IsHeld s b → words_refusal s words ≡ Some r
interval_refused b cur words r is a plain e s h = judged_interval s b cur words is (awaits_as b cur IntervalLine is a)
    plain h ∙ ap (λ c. first_reason (next_interval_tests c cur words)) (sym h.counts) ∙ e

pub interval_step : (b : Body) (cur : Current) (words : List (List ℕ)) (line : ℕ) (i : Interval) (draft : Draft)
    (current : Option Current) → b.current ≡ Some cur → IsAwaiting IntervalLine b → is_head words ≡ false
    → first_reason (next_interval_tests b.draft.counts cur words) ≡ None → interval_in words ≡ Some i
    → draft ≡ with_interval b.draft (is_sides cur.head) i
    → IfSome b.current (λ c. current ≡ unless_complete (less_line c))
    → TakesRow b words line (Ok tt) (record b { draft = draft; current = current })
interval_step b cur words line i draft current cur_is a plain fine is draft_is current_is =
    let kind = awaits_as b cur IntervalLine cur_is a in
    last_taken b (record b { draft = draft; current = current }) cur words line plain
    (λ s h. judged_interval s b cur words cur_is kind plain h
    ∙ ap (λ c. first_reason (next_interval_tests c cur words)) (sym h.counts) ∙ fine) (λ s row r h.
    let c = counts_of s in
    let o = opened s b cur cur_is h in
    let held = subst (λ t. IsHeld t b) o.whole h in
    let early = early c o.piece cur IntervalLine o.is_open.current kind refl in
    let head = interval_head o.piece.head early.same_kind in
    let parts = same_parts b.draft (is_sides cur.head) i in (
      o,
      with_plain_line s.header o.before o.piece row cur IntervalLine b draft b.columns current held o.is_open cur_is early refl refl
          (draft_is ∙ ap (λ x. with_interval x (is_sides cur.head) i) held.draft ∙ ap (λ x. with_interval (said (at s.header (o.before ++ o.piece ∷ []))) (is_sides x) i) o.is_open.current.head
          ∙ sym (interval_said (options_in s.header) c o.before o.piece row i head (ap interval_in r.same_words ∙ is)))
          (ap (λ x. x.definitions) draft_is ∙ parts.0) (ap (λ x. x.terms) draft_is ∙ parts.1)
          (held.columns ∙ sym (columns_kept o.before o.piece row (λ k. let clash : IntervalLine ≡ ColumnCount = sym early.same_kind ∙ k in cc)))
          (subst (λ o. IfSome o (λ c. current ≡ unless_complete (less_line c))) cur_is current_is),
    ))

-- ---- there is room for the interval

few_from : (rows : List NumberedRow) → length (filter_map (λ r. interval_in (row_words r)) rows) ≤ length rows
few_from [] = omega arith
few_from (r ∷ rows) = by (interval_in (row_words r)) (few_from rows)
  where
    by : (o : Option Interval) → length (filter_map (λ r. interval_in (row_words r)) rows) ≤ length rows → length (cons_option o (filter_map (λ r. interval_in (row_words r)) rows)) ≤ length (r ∷ rows)
    by None rest = omega arith
    by (Some i) rest = omega arith

few_intervals : (p : Piece) → length (piece_intervals p) ≤ length p.rows
few_intervals p = few_from p.rows

room_said : (o : List ℤ) (c : Counts) (before : List Piece) (p : Piece) → AreSound c (before ++ p ∷ [])
    → IsIntervalHead p.head → length p.rows < line_count c p.head
    → HasRoom (draft_of o c (before ++ p ∷ [])) (is_sides p.head)
room_said o c before p h (of_constraints e) within =
    let fresh = none_before before p h.apart in
    let none = gave_none o c before Sides p.name refl (rw e at fresh) in
    let said : (draft_of o c (before ++ p ∷ [])).sides ≡ piece_intervals p =
    ap (λ d. d.sides) (draft-append o c before p ∙ ap (said_by (draft_of o c before) p) e)
    ∙ ap (λ is. is ++ piece_intervals p) none in
    let few = few_intervals p in
    let lt : length p.rows < c.n_con = rw e at within in
    let n = ap (λ k. k.n_con) (draft_counts o c (before ++ p ∷ [])) in
    subst (HasRoom (draft_of o c (before ++ p ∷ []))) (ap is_sides (sym e)) (let same = ap length said in omega arith)
room_said o c before p h (of_variables e) within =
    let fresh = none_before before p h.apart in
    let none = gave_none o c before Bounds p.name refl (rw e at fresh) in
    let said : (draft_of o c (before ++ p ∷ [])).bounds ≡ piece_intervals p =
    ap (λ d. d.bounds) (draft-append o c before p ∙ ap (said_by (draft_of o c before) p) e)
    ∙ ap (λ is. is ++ piece_intervals p) none in
    let few = few_intervals p in
    let lt : length p.rows < c.n_var = rw e at within in
    let n = ap (λ k. k.n_var) (draft_counts o c (before ++ p ∷ [])) in
    subst (HasRoom (draft_of o c (before ++ p ∷ []))) (ap is_sides (sym e)) (let same = ap length said in omega arith)

-- what holds where an interval is awaited
pub record IsIntervalNext (d : Draft) (cur : Current) : Type 0 where
  pub left : 0 < cur.left
  pub most : is_sides cur.head ≡ false → cur.left ≤ d.counts.n_var
  pub room : HasRoom d (is_sides cur.head)

next_of : (s : Standing) (b : Body) (cur : Current) → b.current ≡ Some cur → current_awaits cur ≡ IntervalLine → IsHeld s b → IsIntervalNext b.draft cur
next_of s b cur e kind h =
    let o = opened s b cur e h in
    let c = counts_of s in
    let now = o.is_open.current in
    let early = early c o.piece cur IntervalLine now kind refl in
    let room = room_said (options_in s.header) c o.before o.piece (subst (AreSound c) (ap (λ t. t.pieces) o.whole) h.sound) (interval_head o.piece.head early.same_kind) early.within in
    let draft_is : draft_of (options_in s.header) c (o.before ++ o.piece ∷ []) ≡ b.draft = sym (h.draft ∙ ap (λ t. draft_of (options_in s.header) c t.pieces) o.whole) in
    record {
      left = early.left;
      most = λ f. most (interval_head o.piece.head early.same_kind) f;
      room = subst (λ d. HasRoom d (is_sides cur.head)) draft_is (subst (λ x. HasRoom (draft_of (options_in s.header) c (o.before ++ o.piece ∷ [])) (is_sides x)) (sym now.head) room);
    }
  where
    most : IsIntervalHead (opened s b cur e h).piece.head → is_sides cur.head ≡ false → cur.left ≤ b.draft.counts.n_var
    most (of_constraints q) f = absurd (let now = (opened s b cur e h).is_open.current in let t : is_sides cur.head ≡ true = ap is_sides (now.head ∙ q) in cc)
    most (of_variables q) f =
        let now = (opened s b cur e h).is_open.current in
        let left : cur.left ≡ (counts_of s).n_var - length (opened s b cur e h).piece.rows = now.left ∙ ap (λ x. line_count (counts_of s) x - length (opened s b cur e h).piece.rows) q in
        let n : b.draft.counts.n_var ≡ (counts_of s).n_var = ap (λ k. k.n_var) h.counts in
        omega arith

pub next_interval : (b : Body) (cur : Current) → b.current ≡ Some cur → IsAwaiting IntervalLine b → HoldsSome b → IsIntervalNext b.draft cur
next_interval b cur is a h = next_of h.0 b cur is (awaits_as b cur IntervalLine is a) h.1
