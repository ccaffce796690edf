-- What is held of a piece, and what a row more does to it.
use Rattle.std.proofs.Common.{◌≡◌, ◌∙◌, ℕ, ◌-◌, ◌<◌, ◌≤◌, true, List, [], ◌∷◌, ◌++◌, length, refl, sym, ap, arith, nat_lt, Option, Some, None, ap₂, drop}
use Rattle.std.specs.List.{cons_option}
use Rattle.std.proofs.lemmas.Bool.{cond_both}
use Rattle.std.proofs.lemmas.List.{append-nil, length-append, map-append}
use Rattle.nl_model.specs.declared.header_counts.Counts.{Counts}
use Rattle.nl_lines.specs.declared.head.Head.{Head}
use Rattle.nl_lines.specs.declared.node_row.NodeRow.{NodeRow}
use Rattle.nl_lines.specs.declared.node_row.NodeRow.TheVariants.{Whole, Counted}
use Rattle.std.specs.Prelude.{option_map, unwrap_or}
use Rattle.nl_model.specs.declared.node.Node.{Node}
use Rattle.nl_model.specs.declared.node.Node.TheVariants.{Op}
use Rattle.exact_numbers.specs.Numbers.{whole_of}
use Rattle.nl_lines.specs.Rows.{NumberedRow, row_words}
use Rattle.text_base.specs.Words.{word_at}
use Rattle.nl_lines.specs.declared.pending.Pending.{Pending}
use Rattle.nl_lines.specs.Nodes.{Placed, node_in, opcode_in, nodes_from, pending_from, only_nodes}
use Rattle.nl_lines.specs.NodeRows.{IsRow}
use Rattle.nl_lines.specs.Pieces.{Piece, pair_count, line_count, has_tree, tree_rows, piece_nodes, piece_pending, awaited_in}
use Rattle.nl_segments.specs.Current.{Current, current_awaits, new_current, less_line, with_node_row, IsCurrent}
use Rattle.nl_lines.proofs.RowLemmas.{early_tree, late_tree, last_nodes, last_pending, nodes-more, pending-more, tree_count}
use Rattle.nl_lines.proofs.PieceLemmas.{drop_none, longer}
use Rattle.std.proofs.lemmas.Bool.Decides.{nat_tests}

-- ---- awaited

pub positive : (a b : ℕ) → nat_lt 0 (a - b) ≡ nat_lt b a
positive a b = grind (arith, nat_tests)

pub awaits : (c : Counts) (p : Piece) (cur : Current) → IsCurrent c p cur → current_awaits cur ≡ awaited_in c p
unfolding awaited_in
awaits c p cur h = rw (h.head, h.left, h.nodes, h.pending, positive (line_count c p.head) (length p.rows)) refl

-- ---- what is held, with a row more

left_less : (count : ℕ) (rows : List NumberedRow) (row : NumberedRow) → count - length rows - 1 ≡ count - length (rows ++ row ∷ [])
left_less count rows row = omega (arith, length-append rows (row ∷ []))

no_left : (count : ℕ) (rows : List NumberedRow) (row : NumberedRow) → count ≤ length rows → count - length rows ≡ count - length (rows ++ row ∷ [])
no_left count rows row late = omega (arith, length-append rows (row ∷ []))

-- a line before an expression
pub with_line : (c : Counts) (p : Piece) (cur : Current) (row : NumberedRow) → IsCurrent c p cur → length p.rows < line_count c p.head → IsCurrent c (longer p row) (less_line cur)
with_line c p cur row h early =
    let tree = early_tree c p row early in
    record {
      head = h.head;
      line = h.line;
      left = ap (λ (k : ℕ). k - 1) h.left ∙ left_less (line_count c p.head) p.rows row;
      nodes = h.nodes ∙ ap (λ rs. only_nodes (nodes_from c.n_var None rs)) (sym tree);
      pending = h.pending ∙ ap (pending_from None) (sym tree);
    }

-- ---- a row of the expression, whose node or opcode stands in this line

abbrev pub row_placed : ℕ → NodeRow → List Placed
row_placed line (Whole n) = record { node = n; line = line } ∷ []
row_placed line (Counted o) = []

-- a row of a piece means this, after what is held of the piece
pub record IsRowStep (n : ℕ) (cur : Current) (row : NumberedRow) (r : NodeRow) (line : ℕ) : Type 0 where
  pub nodes : last_nodes n cur.pending row ≡ row_placed line r
  pub pending : (with_node_row cur line r).pending ≡ last_pending cur.pending row

-- a node, or an opcode that awaits its number of operands
pub node_step : (n : ℕ) (cur : Current) (row : NumberedRow) (r : NodeRow) → cur.pending ≡ None → IsRow (node_in n (row_words row)) (opcode_in (row_words row)) r → IsRowStep n cur row r row.line
node_step n cur row (Whole m) none is = record {
  nodes = ap (λ o. last_nodes n o row) none ∙ ap (λ o. cons_option (option_map (λ (m : Node). record { node = m; line = row.line }) o) []) is.0;
  pending = sym (ap (λ o. last_pending o row) none ∙ ap (λ o. option_map (λ (o : ℕ). record { opcode = o; line = row.line }) o) is.1);
}
node_step n cur row (Counted o) none is = record {
  nodes = ap (λ o. last_nodes n o row) none ∙ ap (λ o. cons_option (option_map (λ (m : Node). record { node = m; line = row.line }) o) []) is.0;
  pending = sym (ap (λ o. last_pending o row) none ∙ ap (λ o. option_map (λ (o : ℕ). record { opcode = o; line = row.line }) o) is.1);
}

-- the number of operands of the opcode that awaits it
pub count_step : (n : ℕ) (cur : Current) (row : NumberedRow) (q : Pending) (k : ℕ) → cur.pending ≡ Some q
    → whole_of (word_at (row_words row) 0) ≡ Some k → IsRowStep n cur row (Whole (Op q.opcode k)) q.line
count_step n cur row q k some is = record {
  nodes = ap (λ o. last_nodes n o row) some ∙ ap (λ (o : Option ℕ). (let y : Placed = record { node = Op q.opcode (unwrap_or o 0); line = q.line } in y) ∷ []) is;
  pending = sym (ap (λ o. last_pending o row) some);
}

row_nodes : (cur : Current) (line : ℕ) (r : NodeRow) → (with_node_row cur line r).nodes ≡ cur.nodes ++ only_nodes (row_placed line r)
row_nodes cur line (Whole n) = refl
row_nodes cur line (Counted o) = sym (append-nil cur.nodes)

pub row_pairs : (cur : Current) (line : ℕ) (r : NodeRow) → (with_node_row cur line r).pairs ≡ cur.pairs
row_pairs cur line (Whole n) = refl
row_pairs cur line (Counted o) = refl

row_fields : (cur : Current) (line : ℕ) (r : NodeRow) → ((with_node_row cur line r).head ≡ cur.head) × ((with_node_row cur line r).line ≡ cur.line) × ((with_node_row cur line r).left ≡ cur.left)
row_fields cur line (Whole n) = (refl, refl, refl)
row_fields cur line (Counted o) = (refl, refl, refl)

-- a row of the expression changes nodes and the pending opcode alone
pub with_row : (c : Counts) (p : Piece) (cur : Current) (row : NumberedRow) (r : NodeRow) (line : ℕ) → IsCurrent c p cur
    → has_tree p.head ≡ true → line_count c p.head ≤ length p.rows → IsRowStep c.n_var cur row r line
    → IsCurrent c (longer p row) (with_node_row cur line r)
with_row c p cur row r line h tree late step =
    let same = row_fields cur line r in
    let rows = late_tree p row tree (omega (arith, late, tree_count c p.head tree)) in
    record {
      head = same.0 ∙ h.head;
      line = same.1 ∙ h.line;
      left = same.2 ∙ h.left ∙ no_left (line_count c p.head) p.rows row late;
      nodes = row_nodes cur line r
          ∙ ap₂ (λ ns ms. ns ++ only_nodes ms) h.nodes (sym step.nodes ∙ ap (λ o. last_nodes c.n_var o row) h.pending)
          ∙ sym (ap (λ rs. only_nodes (nodes_from c.n_var None rs)) rows
          ∙ ap only_nodes (nodes-more c.n_var None (tree_rows p) row)
          ∙ map-append (λ n. n.node) (piece_nodes c p) (last_nodes c.n_var (piece_pending p) row));
      pending = step.pending ∙ ap (λ o. last_pending o row) h.pending ∙ sym (ap (pending_from None) rows ∙ pending-more None (tree_rows p) row);
    }

pub no_rows : (head : Head) (name : List ℕ) (line : ℕ) → tree_rows (record { head = head; name = name; line = line; rows = [] }) ≡ []
no_rows head name line = cond_both (has_tree head) (drop {A = NumberedRow} (pair_count head) []) [] (λ rows. rows ≡ []) (λ e. drop_none (pair_count head)) (λ e. refl)

-- a head
pub begun : (c : Counts) (head : Head) (name : List ℕ) (line : ℕ) → IsCurrent c (record { head = head; name = name; line = line; rows = [] }) (new_current head line (line_count c head))
unfolding nodes_from pending_from
begun c head name line =
    let none = sym (no_rows head name line) in
    record { head = refl; line = refl; left = omega arith; nodes = ap (λ rs. only_nodes (nodes_from c.n_var None rs)) none; pending = ap (pending_from None) none }
