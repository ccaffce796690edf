-- A row of an expression at the front of a piece.
use Rattle.std.proofs.Common.{◌≡◌, ℕ, suc, ◌+◌, ◌<◌, ◌≤◌, ◌^◌, ◌&&◌, true, List, length, refl, arith, Option, Some, nat_le, nat_lt}
use Rattle.std.specs.Prelude.{IfSome, IsSomeAnd, Ok}
use Rattle.text_base.specs.Judged.{Decides}
use Rattle.text_base.specs.Words.{row_of, without_comment}
use Rattle.nl_model.specs.Draft.{Draft}
use Rattle.nl_model.specs.declared.node.Node.TheVariants.{Op}
use Rattle.nl_lines.specs.declared.awaited.Awaited.TheVariants.{Node as NodeLine, OperandCount}
use Rattle.nl_lines.specs.declared.leaf.Leaf.{Leaf}
use Rattle.nl_lines.specs.declared.leaf.Leaf.TheVariants.{Number, Variable, Opcode}
use Rattle.nl_lines.specs.declared.node_row.NodeRow.{NodeRow}
use Rattle.nl_lines.specs.declared.node_row.NodeRow.TheVariants.{Whole, Counted}
use Rattle.nl_lines.specs.declared.pending.Pending.{Pending}
use Rattle.nl_lines.specs.FirstRows.{IsFirstRow}
use Rattle.nl_lines.specs.Leaves.{IsLeafRow}
use Rattle.nl_lines.specs.Saying.{PlaceLines}
use Rattle.nl_lines.specs.WholeRows.{IsWholeRow}
use Rattle.nl_lines.proofs.LeafLemmas.{leaf_plain}
use Rattle.nl_lines.proofs.WholeRows.{operand_fine, operand_says, whole_plain}
use Rattle.nl_segments.specs.Current.{Current, IsPending, with_node_row}
use Rattle.nl_segments.specs.Held.{Body, HoldsSome, IsAwaiting}
use Rattle.nl_segments.specs.InsideKnownNodes.{IsGoodNode}
use Rattle.nl_lines.specs.declared.head.Head.{Head}
use Rattle.nl_lines.specs.declared.head.Head.TheVariants.{Body as BodyHead, Objective}
use Rattle.nl_segments.specs.InsidePlaceSteps.{nodes_follow, with_node_line, with_node_run}
use Rattle.nl_segments.specs.InsideTermRuns.{TakesLines}
use Rattle.nl_segments.specs.InsideTreeSteps.{CanTakeRow, IsNextRow, IsSettled, counted_node_tests, row_count, with_row_line}
use Rattle.nl_segments.proofs.NodeSteps.{can_keep_node, can_take, count_read, node_kept, row_taken}
use Rattle.nl_segments.proofs.StandingLemmas.{row_first}

-- ---- a letter and a number

-- all rows that say this are read as this row
abbrev pub IsReadNext : Body → Leaf → NodeRow → Type 0
IsReadNext b leaf r = (words : List (List ℕ)) → IsLeafRow words leaf → Decides (counted_node_tests b.draft.counts b.draft b.nodes words) (IsNextRow b.draft.counts b.nodes words) (Ok r)

good : (b : Body) (leaf : Leaf) (r : NodeRow) (words : List (List ℕ)) → IsReadNext b leaf r → IsLeafRow words leaf → IsGoodNode b r words
good b leaf r words read p = (let d = read words p in record { plain = leaf_plain words leaf p; fine = d.0; read = d.1 })

one_word : (words : List (List ℕ)) (leaf : Leaf) → IsLeafRow words leaf → (more : ℕ) × (length words ≡ suc more)
one_word words (Number d) p = (0, p.0.one)
one_word words (Variable i) p = (0, p.0.one)
one_word words (Opcode o) p = (0, p.0.one)

pub leaf_can : (b : Body) (piece : List ℕ) (len : ℕ) (leaf : Leaf) (r : NodeRow) (line : ℕ) → IsAwaiting NodeLine b
    → HoldsSome b → IsFirstRow piece len (λ words. IsLeafRow words leaf) → IsReadNext b leaf r
    → IsSomeAnd b.current (λ c. CanTakeRow b.draft b.places c r line)
leaf_can b piece len leaf r line awaits held first read =
    let words = row_of (without_comment first.line) in
    can_keep_node b r line awaits (words, good b leaf r words read first.row) held

pub leaf_few : (b : Body) (piece : List ℕ) (len : ℕ) (leaf : Leaf) (r : NodeRow) → IsFirstRow piece len (λ words. IsLeafRow words leaf) → IsReadNext b leaf r → b.nodes < 2 ^ 22
leaf_few b piece len leaf r first read = (read (row_of (without_comment first.line)) first.row).1.few

pub leaf_first : (b : Body) (piece : List ℕ) (number len : ℕ) (leaf : Leaf) (r : NodeRow) (count : ℕ) (draft : Draft)
    (kept : Option Current) (places : PlaceLines) → IsAwaiting NodeLine b
    → IsFirstRow piece len (λ words. IsLeafRow words leaf)
    → IsReadNext b leaf r → count ≡ row_count r → IfSome b.current
    (λ c. places ≡ with_row_line b.places number c.head r)
    → IfSome b.current (λ c. IsSettled b.draft (with_node_row c number r) kept draft)
    → TakesLines b piece number (record { len = len; lines = 1 }) (record b { draft = draft; current = kept; nodes = b.nodes + count; places = places })
leaf_first b piece number len leaf r count draft kept places awaits first read counted lines settled =
    row_first b (record b { draft = draft; current = kept; nodes = b.nodes + count; places = places }) piece number len (λ words. IsLeafRow words leaf) first (λ words p. one_word words leaf p)
    (λ words p. node_kept b r number count draft kept places awaits counted lines settled words (good b leaf r words read p))

-- ---- a number of operands

-- the last piece awaits the number of operands of an opcode
pub record AwaitsOperands (b : Body) (cur : Current) (q : Pending) : Type 0 where
  pub here : b.current ≡ Some cur
  pub awaiting : IsAwaiting OperandCount b
  pub pending : cur.pending ≡ Some q
  pub waits : IfSome cur.pending (IsPending cur.nodes)
  pub held : HoldsSome b

pub operand_can : (b : Body) (piece : List ℕ) (len k line : ℕ) (cur : Current) (q : Pending) → AwaitsOperands b cur q
    → IsFirstRow piece len (λ words. IsWholeRow words k) → (nat_lt 0 k && nat_le k (2 ^ 22)) ≡ true
    → IsSomeAnd b.current (λ c. CanTakeRow b.draft b.places c (Whole (Op q.opcode k)) q.line)
operand_can b piece len k line cur q a first few =
    let words = row_of (without_comment first.line) in
    can_take b words line q.line cur (Whole (Op q.opcode k)) a.held
    (count_read b words line cur q k a.here a.awaiting (whole_plain words k first.row) a.pending a.waits a.held (operand_fine words k first.row few) (operand_says words k first.row few))

pub operand_first : (b : Body) (piece : List ℕ) (number len k : ℕ) (cur : Current) (q : Pending) (draft : Draft)
    (kept : Option Current) (places : PlaceLines) → AwaitsOperands b cur q
    → IsFirstRow piece len (λ words. IsWholeRow words k)
    → (nat_lt 0 k && nat_le k (2 ^ 22)) ≡ true → IfSome b.current
    (λ c. places ≡ with_row_line b.places q.line c.head (Whole (Op q.opcode k)))
    → IfSome b.current (λ c. IsSettled b.draft (with_node_row c q.line (Whole (Op q.opcode k))) kept draft)
    → TakesLines b piece number (record { len = len; lines = 1 }) (record b { draft = draft; current = kept; nodes = b.nodes + 1; places = places })
operand_first b piece number len k cur q draft kept places a first few lines settled =
    row_first b (record b { draft = draft; current = kept; nodes = b.nodes + 1; places = places }) piece number len (λ words. IsWholeRow words k) first (λ words p. (0, p.one))
    (λ words p. row_taken b words number q.line cur (Whole (Op q.opcode k)) 1 draft kept places
    (count_read b words number cur q k a.here a.awaiting (whole_plain words k p) a.pending a.waits a.held (operand_fine words k p few) (operand_says words k p few)) refl lines settled)

pub at_most_one : (r : NodeRow) → row_count r ≤ 1
at_most_one (Whole n) = omega arith
at_most_one (Counted o) = omega arith

-- one line as a run
pub one_node : (l : PlaceLines) (line : ℕ) (h : Head) → nodes_follow l h line ≡ true → with_node_run l line 1 h ≡ with_node_line l line h
one_node l line (BodyHead i) e = refl
one_node l line (Objective k m) e = refl
one_node l line h e = absurd cc
