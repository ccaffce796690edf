-- Rows without a fault: the pieces that they say are sound, and a node of each expression was awaited where it came.
use Rattle.std.proofs.Common.{◌≡◌, ◌∙◌, ℕ, ◌+◌, ◌<◌, ◌^◌, ◌==◌, Bool, true, false, not, ◌&&◌, List, [], ◌∷◌, ◌++◌, length, refl, sym, ap, subst, arith, nat_lt, Option, Some, None, All, append-nil}
use Rattle.std.specs.Prelude.{IfSome, is_none, unwrap_or, if◌then◌else◌}
use Rattle.std.proofs.lemmas.Bool.{ltb-true, ltb-false, not-false, cond_both}
use Rattle.std.proofs.lemmas.List.{map-append}
use Rattle.std.proofs.lemmas.List.Elements.{All-push}
use Rattle.text_base.specs.Judged.{first_reason}
use Rattle.text_base.proofs.FirstReasons.{none_head, none_each, none_first, none_second}
use Rattle.nl_model.specs.declared.header_counts.Counts.{Counts}
use Rattle.nl_model.specs.declared.node.Node.{Node}
use Rattle.nl_model.specs.declared.node.Node.TheVariants.{Op}
use Rattle.nl_model.specs.Draft.{Draft}
use Rattle.nl_model.specs.File.{Term}
use Rattle.nl_model.specs.Nodes.{awaited, IsRun}
use Rattle.nl_model.proofs.Prefixes.{IsRun-push}
use Rattle.nl_lines.specs.declared.awaited.Awaited.{Awaited}
use Rattle.nl_lines.specs.declared.awaited.Awaited.TheVariants.{Nothing, Pair, ColumnCount, Interval as IntervalLine, Node as NodeLine, OperandCount}
use Rattle.nl_lines.specs.declared.head.Head.{Head}
use Rattle.nl_lines.specs.declared.fault.NlReason.TheVariants.{ShortSegment, RepeatedIndex, TooLarge}
use Rattle.exact_numbers.specs.Numbers.{whole_of}
use Rattle.nl_lines.specs.Rows.{NumberedRow, row_words}
use Rattle.text_base.specs.Words.{word_at}
use Rattle.nl_lines.specs.Heads.{is_head, head_of, name_in}
use Rattle.nl_lines.specs.declared.pending.Pending.{Pending}
use Rattle.nl_lines.specs.Nodes.{Placed, node_in, opcode_in, pending_in, nodes_of, pending_from, only_nodes}
use Rattle.nl_lines.specs.Pieces.{Piece, awaited_in, awaited_of, has_tree, is_nothing, last_piece, line_count}
use Rattle.nl_lines.specs.Pieces.{line_kind, piece_nodes, piece_pairs, piece_pending, extended, tree_awaits, tree_rows}
use Rattle.nl_lines.specs.Pieces.{with_row}
use Rattle.nl_lines.specs.Tests.{Tests, is_full, awaited_tests, formed_head_tests, has_index, head_form_tests}
use Rattle.nl_lines.specs.Tests.{head_tests, holds_once, index_limit, operand_tests, pair_form_tests, pair_tests}
use Rattle.nl_lines.specs.Tests.{row_tests, wants_whole_values}
use Rattle.nl_segments.specs.Current.{IsPending}
use Rattle.nl_segments.specs.Held.{AreSound, IsSoundPiece}
use Rattle.nl_lines.proofs.RowLemmas.{early_tree, last_nodes, last_pending, late_tree, pending-more, tree_count}
use Rattle.nl_segments.proofs.CurrentLemmas.{begun}
use Rattle.nl_segments.proofs.HeadLaw.{no_piece_sound, all_complete, sound_begun}
use Rattle.nl_segments.proofs.HeadBegun.{new_piece}
use Rattle.nl_lines.proofs.NodeLemmas.{node_formed, opcode_counted}
use Rattle.nl_segments.proofs.NodeSteps.{in_tree, lines_before, IsInTree, tree_nodes, node_wanted}
use Rattle.nl_lines.proofs.OpcodeLemmas.{counted_fit}
use Rattle.nl_segments.proofs.PairHeld.{IsBefore, before_lines, never, none_within, sound_kept, plain_lines}
use Rattle.nl_lines.proofs.PairJudging.{IsIndex, below_limit, index_of, pair_found}
use Rattle.nl_segments.proofs.PairLines.{awaited-last, other_last, last_of, last_sound, sound_longer}
use Rattle.nl_segments.proofs.PairPiece.{IsNextPair, sound_pair}
use Rattle.nl_lines.proofs.PieceLemmas.{split, longer, extended-append}

-- ---- what a piece awaits

-- after them, it awaits a row of its expression
pub record IsInside (c : Counts) (p : Piece) (kind : Awaited) : Type 0 where
  pub place : IsInTree c p
  pub awaits : tree_awaits (piece_nodes c p) (piece_pending p) ≡ kind

pub inside_tree : (c : Counts) (p : Piece) (kind : Awaited) → awaited_in c p ≡ kind → in_tree kind ≡ true → IsInside c p kind
unfolding awaited_in
inside_tree c p kind e tree = by (nat_lt (length p.rows) (line_count c p.head)) (has_tree p.head) refl refl e
  where
    by : (t u : Bool) → nat_lt (length p.rows) (line_count c p.head) ≡ t → has_tree p.head ≡ u
        → (if t then line_kind p.head else (if u then tree_awaits (piece_nodes c p) (piece_pending p) else Nothing))
        ≡ kind
        → IsInside c p kind
    by true u q r is = absurd (never (sym (ap in_tree is ∙ tree) ∙ lines_before p.head))
    by false true q r is =
        let late = ltb-false _ _ q in
        record { place = record { tree = r; late = late; early = omega (arith, late, tree_count c p.head r) }; awaits = is }
    by false false q r is = absurd (never (sym (ap in_tree is ∙ tree)))

-- ---- the nodes of a piece

-- a tree was awaited before each node, and is while an opcode awaits its number of operands
pub record IsRunning (c : Counts) (p : Piece) : Type 0 where
  pub run : IsRun 1 (only_nodes (piece_nodes c p))
  pub pending : IfSome (piece_pending p) (IsPending (only_nodes (piece_nodes c p)))

running_begun : (c : Counts) (head : Head) (name : List ℕ) (line : ℕ) → IsRunning c (new_piece head name line)
running_begun c head name line =
    let none = begun c head name line in
    record {
      run = subst (IsRun 1) none.nodes tt;
      pending = subst (λ o. IfSome o (IsPending (only_nodes (piece_nodes c (new_piece head name line))))) none.pending tt;
    }

running_line : (c : Counts) (p : Piece) (row : NumberedRow) → length p.rows < line_count c p.head → IsRunning c p → IsRunning c (longer p row)
running_line c p row within h =
    let same = sym (early_tree c p row within) in
    record {
      run = subst (λ rs. IsRun 1 (only_nodes (nodes_of c.n_var rs))) same h.run;
      pending = subst (λ rs. IfSome (pending_from None rs) (IsPending (only_nodes (nodes_of c.n_var rs)))) same h.pending;
    }

-- with a row of the expression
running_row : (c : Counts) (p : Piece) (row : NumberedRow) (o : Option Pending) → IsInTree c p → piece_pending p ≡ o
    → IsRun 1 (only_nodes (piece_nodes c p) ++ only_nodes (last_nodes c.n_var o row)) → IfSome (last_pending o row) (IsPending (only_nodes (piece_nodes c p) ++ only_nodes (last_nodes c.n_var o row)))
    → IsRunning c (longer p row)
running_row c p row o place e run pending =
    let nodes : only_nodes (piece_nodes c (longer p row)) ≡ only_nodes (piece_nodes c p) ++ only_nodes (last_nodes c.n_var o row) =
    ap only_nodes (tree_nodes c p row place) ∙ map-append (λ n. n.node) (piece_nodes c p)
    (last_nodes c.n_var (piece_pending p) row) ∙ ap (λ o. only_nodes (piece_nodes c p)
    ++ only_nodes (last_nodes c.n_var o row)) e in
    let after : piece_pending (longer p row) ≡ last_pending o row =
    ap (pending_from None) (late_tree p row place.tree place.early) ∙ pending-more None (tree_rows p) row
    ∙ ap (λ o. last_pending o row) e in
    record {
      run = subst (IsRun 1) (sym nodes) run;
      pending = subst (λ ns. IfSome (piece_pending (longer p row)) (IsPending ns)) (sym nodes)
          (subst (λ q. IfSome q (IsPending (only_nodes (piece_nodes c p) ++ only_nodes (last_nodes c.n_var o row)))) (sym after) pending);
    }

-- a node, or an opcode whose number of operands is on the next row
record IsNodeRun (c : Counts) (ns : List Node) (row : NumberedRow) : Type 0 where
  run : IsRun 1 (ns ++ only_nodes (last_nodes c.n_var None row))
  pending : IfSome (pending_in row) (IsPending (ns ++ only_nodes (last_nodes c.n_var None row)))

node_run : (c : Counts) (ns : List Node) (row : NumberedRow) → IsRun 1 ns → 0 < awaited ns → IsNodeRun c ns row
node_run c ns row run wanted = by (node_in c.n_var (row_words row)) (opcode_in (row_words row)) refl refl
  where
    by : (n : Option Node) (o : Option ℕ) → node_in c.n_var (row_words row) ≡ n → opcode_in (row_words row) ≡ o → IsNodeRun c ns row
    by None None p q = record { run = rw (p, append-nil ns) run; pending = rw q tt }
    by None (Some o) p q = record { run = rw (p, append-nil ns) run; pending = rw (p, q, append-nil ns) ((opcode_counted c.n_var (row_words row) o q).operands, wanted) }
    by (Some n) None p q = record { run = rw p (IsRun-push 1 ns n run wanted (node_formed c (row_words row) n p)); pending = rw q tt }
    by (Some n) (Some o) p q = absurd (let none = (opcode_counted c.n_var (row_words row) o q).none in cc)

pub node_awaited : (ns : List Placed) (q : Option Pending) → tree_awaits ns q ≡ NodeLine → (q ≡ None) × (0 < awaited (only_nodes ns))
node_awaited ns (Some q) e = absurd cc
node_awaited ns None e = node_wanted (only_nodes ns) None e

running_node : (c : Counts) (p : Piece) (row : NumberedRow) → IsInside c p NodeLine → IsRunning c p → IsRunning c (longer p row)
running_node c p row i h =
    let a = node_awaited (piece_nodes c p) (piece_pending p) i.awaits in
    let r = node_run c (only_nodes (piece_nodes c p)) row h.run a.1 in
    running_row c p row None i.place a.0 r.run r.pending

-- the number of operands of the opcode that awaits it
pub no_count : (ns : List Placed) → tree_awaits ns None ≡ OperandCount → ⊥
no_count ns e = cond_both (awaited (only_nodes ns) == 0) Nothing NodeLine (λ a. a ≡ OperandCount → ⊥) (λ q is. cc) (λ q is. cc) e

running_count : (c : Counts) (p : Piece) (row : NumberedRow) → IsInside c p OperandCount → first_reason (operand_tests (row_words row)) ≡ None → IsRunning c p → IsRunning c (longer p row)
unfolding operand_tests
running_count c p row i fine h =
    let none = none_each (operand_tests (row_words row)) fine in
    by (piece_pending p) refl (below_limit (2 ^ 22 + 1) (whole_of (word_at (row_words row) 0)) none.1.1.0) (ltb-true 0 (unwrap_or (whole_of (word_at (row_words row) 0)) 1) (not-false _ none.1.0))
  where
    by : (o : Option Pending) → piece_pending p ≡ o → IsIndex (2 ^ 22 + 1) (whole_of (word_at (row_words row) 0)) → 0 < unwrap_or (whole_of (word_at (row_words row) 0)) 1 → IsRunning c (longer p row)
    by None e k some = absurd (no_count (piece_nodes c p) (subst (λ o. tree_awaits (piece_nodes c p) o ≡ OperandCount) e i.awaits))
    by (Some q) e k some =
        let pends : IsPending (only_nodes (piece_nodes c p)) q = subst (λ o. IfSome o (IsPending (only_nodes (piece_nodes c p)))) e h.pending in
        let first : unwrap_or (whole_of (word_at (row_words row) 0)) 1 ≡ k.index = ap (λ o. unwrap_or o 1) k.is in
        let fits = counted_fit q.opcode k.index pends.0 (omega (arith, some)) (omega (arith, k.below)) in
        let last : IsRun 1 (only_nodes (piece_nodes c p) ++ Op q.opcode k.index ∷ []) = IsRun-push 1 (only_nodes (piece_nodes c p)) (Op q.opcode k.index) h.run pends.1 fits in
        running_row c p row (Some q) i.place e (rw k.is last) tt

-- ---- the pieces

-- of lines without a fault
pub record AreClean (c : Counts) (pieces : List Piece) : Type 0 where
  pub sound : AreSound c pieces
  pub running : All (IsRunning c) pieces

pub clean_none : (c : Counts) → AreClean c []
clean_none c = record { sound = no_piece_sound c; running = λ k d lt. absurd (omega (arith, lt)) }

clean_longer : (c : Counts) (before : List Piece) (p : Piece) (row : NumberedRow) → AreClean c (before ++ p ∷ [])
    → IsSoundPiece c (longer p row) → IsRunning c (longer p row) → AreClean c (before ++ longer p row ∷ [])
clean_longer c before p row h sound running =
    record { sound = sound_longer c before p row h.sound sound; running = other_last (IsRunning c) before p (longer p row) h.running running }

-- a head
clean_head : (c : Counts) (pieces : List Piece) (row : NumberedRow) → AreClean c pieces → is_head (row_words row) ≡ true
    → first_reason (head_tests c pieces (row_words row)) ≡ None → AreClean c (with_row c pieces row)
unfolding head_tests head_form_tests
clean_head c pieces row h is fine =
    let words = row_words row in
    let closed = none_head (not (is_nothing (awaited_of c pieces))) ShortSegment (head_form_tests c words ++ formed_head_tests c pieces (name_in words) (head_of c words)) fine in
    let form = none_each (head_form_tests c words) (none_first (head_form_tests c words) (formed_head_tests c pieces (name_in words) (head_of c words)) closed.1) in
    let formed = none_second (head_form_tests c words) (formed_head_tests c pieces (name_in words) (head_of c words)) closed.1 in
    by (head_of c words) refl (not-false _ closed.0) form.1.1.0 formed
  where
    by : (o : Option Head) → head_of c (row_words row) ≡ o → is_nothing (awaited_of c pieces) ≡ true
        → is_none (head_of c (row_words row)) ≡ false → first_reason (formed_head_tests c pieces (name_in (row_words row)) (head_of c (row_words row))) ≡ None
        → AreClean c (with_row c pieces row)
    by None e closed form formed = absurd (never (sym (ap is_none e) ∙ form ∙ refl))
    by (Some head) e closed form formed =
        let none = none_each (formed_head_tests c pieces (name_in (row_words row)) (Some head)) (rw e at formed) in
        let new = new_piece head (name_in (row_words row)) row.line in
        rw (is, e) (record {
          sound = sound_begun c pieces head (name_in (row_words row)) row.line h.sound (all_complete c pieces h.sound closed) (not-false _ none.0) none.1.1.0;
          running = All-push (IsRunning c) pieces new h.running (running_begun c head (name_in (row_words row)) row.line);
        })

-- a pair
next_pair : (c : Counts) (pieces : List Piece) (p : Piece) (row : NumberedRow) → IsBefore c p Pair → first_reason (pair_tests c pieces p (row_words row)) ≡ None → (t : Term) × IsNextPair c p row t
unfolding pair_tests
next_pair c pieces p row b fine =
    let words = row_words row in
    let form = pair_form_tests (index_limit c p.head) (wants_whole_values p.head) words in
    let rest : Tests = (holds_once p.head && has_index (piece_pairs p) (unwrap_or (whole_of (word_at words 0)) 0), RepeatedIndex) ∷ (is_full pieces p.head, TooLarge) ∷ [] in
    let pair = pair_found (index_limit c p.head) (wants_whole_values p.head) words (none_first form rest fine) in
    let once = none_each rest (none_second form rest fine) in (
      pair.term,
      record {
        within = b.within;
        same_kind = b.same_kind;
        says = pair.says;
        below = pair.below;
        fresh = λ holds. rw (holds, index_of words pair.term pair.says) at once.0;
      },
    )

-- a row that the last piece awaits
clean_line : (c : Counts) (d : Draft) (pieces before : List Piece) (p : Piece) (row : NumberedRow) (kind : Awaited) → AreClean c (before ++ p ∷ []) → awaited_in c p ≡ kind
    → first_reason (awaited_tests c d pieces p (row_words row) kind) ≡ None → AreClean c (before ++ longer p row ∷ [])
clean_line c d pieces before p row Nothing h e fine = absurd cc
clean_line c d pieces before p row Pair h e fine =
    let b = before_lines c p Pair e refl in
    let next = next_pair c pieces p row b fine in
    clean_longer c before p row h (sound_pair c p row next.0 next.1 (last_sound c before p h.sound)) (running_line c p row b.within (last_of (IsRunning c) before p h.running))
clean_line c d pieces before p row ColumnCount h e fine =
    let b = before_lines c p ColumnCount e refl in
    clean_longer c before p row h (sound_kept c p row (none_within p
    (plain_lines p.head ColumnCount b.same_kind refl refl).0) (last_sound c before p h.sound))
    (running_line c p row b.within (last_of (IsRunning c) before p h.running))
clean_line c d pieces before p row IntervalLine h e fine =
    let b = before_lines c p IntervalLine e refl in
    clean_longer c before p row h (sound_kept c p row (none_within p
    (plain_lines p.head IntervalLine b.same_kind refl refl).0) (last_sound c before p h.sound))
    (running_line c p row b.within (last_of (IsRunning c) before p h.running))
clean_line c d pieces before p row NodeLine h e fine =
    let i = inside_tree c p NodeLine e refl in
    clean_longer c before p row h (sound_kept c p row i.place.early (last_sound c before p h.sound)) (running_node c p row i (last_of (IsRunning c) before p h.running))
clean_line c d pieces before p row OperandCount h e fine =
    let i = inside_tree c p OperandCount e refl in
    clean_longer c before p row h (sound_kept c p row i.place.early (last_sound c before p h.sound)) (running_count c p row i fine (last_of (IsRunning c) before p h.running))

-- any row
pub clean_row : (c : Counts) (d : Draft) (pieces : List Piece) (row : NumberedRow) → AreClean c pieces → first_reason (row_tests c d pieces (row_words row)) ≡ None → AreClean c (with_row c pieces row)
unfolding row_tests
clean_row c d pieces row h fine = by (is_head (row_words row)) (last_piece pieces) refl refl
  where
    by : (t : Bool) (o : Option Piece) → is_head (row_words row) ≡ t → last_piece pieces ≡ o → AreClean c (with_row c pieces row)
    by true o is e = clean_head c pieces row h is (rw is at fine)
    by false None is e = absurd (let none = rw (is, e) at fine in cc)
    by false (Some p) is e =
        let parts = split pieces p e in
        let tests : first_reason (awaited_tests c d pieces p (row_words row) (awaited_of c pieces)) ≡ None = rw (is, e) at fine in
        let kind = awaited-last c pieces p e in
        let whole = subst (AreClean c) parts.whole h in
        let longer = clean_line c d pieces parts.before p row (awaited_in c p) whole refl (subst (λ k. first_reason (awaited_tests c d pieces p (row_words row) k) ≡ None) kind tests) in
        rw is (subst (AreClean c) (sym (ap (λ ps. extended ps row) parts.whole ∙ extended-append parts.before p row)) longer)
