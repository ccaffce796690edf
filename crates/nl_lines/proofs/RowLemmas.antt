-- The parts of a piece with a row more.
use Rattle.std.proofs.Common.{◌≡◌, ◌∙◌, ℕ, ◌<◌, ◌≤◌, true, List, [], ◌∷◌, ◌++◌, length, take, refl, sym, ap, ap₂, arith, Option, Some, None}
use Rattle.std.specs.List.{filter_map, cons_option}
use Rattle.std.proofs.lemmas.List.{length-append, take-append-le, take_all, drop_all, drop-append-le}
use Rattle.std.proofs.lemmas.List.Elements.{filter_map-append}
use Rattle.nl_model.specs.declared.header_counts.Counts.{Counts}
use Rattle.nl_model.specs.File.{Term}
use Rattle.nl_lines.specs.declared.head.Head.{Head}
use Rattle.nl_lines.specs.declared.head.Head.TheVariants.{Body, Objective, Definition, DualGuesses, Sides, Bounds, ColumnCounts}
use Rattle.nl_lines.specs.Rows.{NumberedRow, row_words}
use Rattle.nl_lines.specs.Nodes.{Placed, Pending, pending_in, placed_in, with_operands, nodes_from, pending_from}
use Rattle.nl_lines.specs.Pieces.{Piece, pair_count, line_count, has_tree, tree_rows, piece_pairs, pair_in}
use Rattle.nl_lines.proofs.PieceLemmas.{longer}

-- lines before an expression: the expression has not begun
pub early_tree : (c : Counts) (p : Piece) (row : NumberedRow) → length p.rows < line_count c p.head → tree_rows (longer p row) ≡ tree_rows p
early_tree c p row early = by p.head refl
  where
    by : (h : Head) → p.head ≡ h → tree_rows (longer p row) ≡ tree_rows p
    by (Body i) e = absurd (let none : length p.rows < 0 = rw e at early in omega arith)
    by (Objective k m) e = absurd (let none : length p.rows < 0 = rw e at early in omega arith)
    by (Definition i j u) e =
        let few : length p.rows < j = rw e at early in
        rw e (drop_all j (p.rows ++ row ∷ []) (omega (arith, length-append p.rows (row ∷ []))) ∙ sym (drop_all j p.rows (omega arith)))
    by (DualGuesses n) e = rw e refl
    by head e = rw e refl

-- a row of the expression
pub late_tree : (p : Piece) (row : NumberedRow) → has_tree p.head ≡ true → pair_count p.head ≤ length p.rows → tree_rows (longer p row) ≡ tree_rows p ++ row ∷ []
late_tree p row tree late = rw tree (drop-append-le (pair_count p.head) p.rows (row ∷ []) late)

-- a pair
pub early_pairs : (p : Piece) (row : NumberedRow) (t : Term) → length p.rows < pair_count p.head → pair_in (row_words row) ≡ Some t → piece_pairs (longer p row) ≡ piece_pairs p ++ t ∷ []
early_pairs p row t early e =
    let whole : take (pair_count p.head) p.rows ≡ p.rows = take_all (pair_count p.head) p.rows (omega arith) in
    let more : take (pair_count p.head) (p.rows ++ row ∷ []) ≡ p.rows ++ row ∷ [] = take_all (pair_count p.head) (p.rows ++ row ∷ []) (omega (arith, length-append p.rows (row ∷ []))) in
    ap (filter_map (λ r. pair_in (row_words r))) more
    ∙ filter_map-append (λ r. pair_in (row_words r)) p.rows (row ∷ [])
    ∙ ap₂ (λ rs o. filter_map (λ r. pair_in (row_words r)) rs ++ cons_option o []) (sym whole) e

-- no pair
pub late_pairs : (p : Piece) (row : NumberedRow) → pair_count p.head ≤ length p.rows → piece_pairs (longer p row) ≡ piece_pairs p
late_pairs p row late = ap (filter_map (λ r. pair_in (row_words r))) (take-append-le (pair_count p.head) p.rows (row ∷ []) late)

-- ---- nodes of rows

-- the nodes of a row after which nothing more is known, where an opcode may be pending
abbrev pub last_nodes : ℕ → Option Pending → NumberedRow → List Placed
last_nodes n None row = cons_option (placed_in n row) []
last_nodes n (Some p) row = with_operands p row ∷ []

abbrev pub last_pending : Option Pending → NumberedRow → Option Pending
last_pending None row = pending_in row
last_pending (Some p) row = None

cons_option-append : {A : Type 0} (o : Option A) (xs ys : List A) → cons_option o (xs ++ ys) ≡ cons_option o xs ++ ys
cons_option-append None xs ys = refl
cons_option-append (Some x) xs ys = refl

pub nodes-more : (n : ℕ) (pending : Option Pending) (rows : List NumberedRow) (row : NumberedRow)
    → nodes_from n pending (rows ++ row ∷ []) ≡ nodes_from n pending rows ++ last_nodes n (pending_from pending rows) row
unfolding nodes_from pending_from
nodes-more n None [] row = refl
nodes-more n (Some p) [] row = refl
nodes-more n None (r ∷ rows) row = ap (cons_option (placed_in n r)) (nodes-more n (pending_in r) rows row) ∙ cons_option-append (placed_in n r) _ _
nodes-more n (Some p) (r ∷ rows) row = ap (λ ps. with_operands p r ∷ ps) (nodes-more n None rows row)

pub pending-more : (pending : Option Pending) (rows : List NumberedRow) (row : NumberedRow) → pending_from pending (rows ++ row ∷ []) ≡ last_pending (pending_from pending rows) row
unfolding pending_from
pending-more None [] row = refl
pending-more (Some p) [] row = refl
pending-more None (r ∷ rows) row = pending-more (pending_in r) rows row
pending-more (Some p) (r ∷ rows) row = pending-more None rows row

pub tree_count : (c : Counts) (h : Head) → has_tree h ≡ true → line_count c h ≡ pair_count h
tree_count c Sides e = absurd cc
tree_count c Bounds e = absurd cc
tree_count c (ColumnCounts n) e = absurd cc
tree_count c head e = refl
