-- Written expressions are taken, node by node.
use Rattle.std.proofs.Common.{◌≡◌, ◌∙◌, ℕ, ◌+◌, ◌-◌, ◌^◌, ◌<◌, ◌≤◌, ◌==◌, true, false, ℤ, List, [], ◌∷◌, ◌++◌, length}
use Rattle.std.proofs.Common.{refl, sym, ap, ap₂, subst, arith, nat_lt, nat_le, Option, Some, None, length-append}
use Rattle.std.proofs.Common.{append_assoc, append-nil, lt_trans, lit<, Bool}
use Rattle.std.specs.Prelude.{codes, if◌then◌else◌}
use Rattle.std.proofs.lemmas.Bool.{lt-ltb, le-leb, lt-leb, le-ltb, eqb-true}
use Rattle.std.proofs.lemmas.Bool.Decides.{nat_tests}
use Rattle.std.proofs.lemmas.List.{length-map, map-append}
use Rattle.std.specs.Fmt.{decimal}
use Rattle.std.specs.List.{AllByRecursion, flat_map}
use Rattle.text_base.specs.Judged.{first_reason}
use Rattle.code_tables.specs.Opcodes.{class_of, operands_of}
use Rattle.code_tables.specs.declared.class.OpClass.{OpClass}
use Rattle.code_tables.specs.declared.class.OpClass.TheVariants.{Refused}
use Rattle.code_tables.specs.declared.class.Operands.{Operands}
use Rattle.code_tables.specs.declared.class.Operands.TheVariants.{One, Two, Counted as OnNextLine}
use Rattle.exact_numbers.specs.declared.dec.Dec.{Dec}
use Rattle.nl_model.specs.Trees.{Takes, rule_of, Tree, Trees, count_of, tree_size, trees_size}
use Rattle.nl_model.specs.declared.header_counts.Counts.{Counts}
use Rattle.nl_model.specs.declared.node.Node.{Node}
use Rattle.nl_model.specs.declared.node.Node.TheVariants.{Num, Var, Defined, Op}
use Rattle.nl_model.specs.Draft.{Draft}
use Rattle.nl_model.specs.declared.definition.Def.{Def as Definition}
use Rattle.nl_model.specs.HeaderRules.{AreCounts, defined_count}
use Rattle.nl_model.specs.Nodes.{opcode_of, awaited, operand_count, IsPrefix, a_number, a_variable, a_defined, an_operation, ArePrefixes, no_tree, one_more}
use Rattle.nl_model.specs.Rules.{is_defined, IsTreeWithin, AreTreesWithin, AreDefinitions}
use Rattle.nl_model.proofs.Opcodes.{opcode_of-known}
use Rattle.nl_model.proofs.Prefixes.{awaited-push}
use Rattle.nl_lines.specs.declared.awaited.Awaited.{Awaited}
use Rattle.nl_lines.specs.declared.awaited.Awaited.TheVariants.{Nothing, Node as NodeLine, OperandCount}
use Rattle.nl_lines.specs.Heads.{is_head}
use Rattle.nl_lines.specs.declared.pending.Pending.{Pending}
use Rattle.nl_lines.specs.Nodes.{node_in, opcode_in, fixed_node, counted_opcode, variable_node, only_nodes, nodes_from, pending_from}
use Rattle.nl_lines.specs.Pieces.{Piece, awaited_in, tree_awaits, line_kind, line_count, pair_count, has_tree, tree_rows, piece_nodes, piece_pending}
use Rattle.nl_lines.specs.Rows.{NumberedRow}
use Rattle.nl_lines.specs.Saying.{draft_of}
use Rattle.nl_lines.specs.Tests.{node_form_tests, node_tests, operand_tests, node_total}
use Rattle.nl_lines.specs.declared.fault.NlReason.TheVariants.{TooLarge}
use Rattle.nl_lines.proofs.RowLemmas.{tree_count, late_tree, last_nodes, last_pending, nodes-more, pending-more}
use Rattle.text_base.proofs.FirstReasons.{reason_after}
use Rattle.nl_lines.proofs.DraftLemmas.{draft_before}
use Rattle.nl_lines.proofs.NodeLemmas.{not_large}
use Rattle.nl_segments.proofs.NodeSteps.{tree_says}
use Rattle.nl_lines.proofs.PieceLemmas.{longer}
use Rattle.exact_numbers.specs.Values.{text_of}
use Rattle.text_base.specs.WordLines.{WordLine}
use Rattle.nl_writer.specs.Trees.{operator_lines, node_lines}
use Rattle.nl_writer.proofs.Writing.{known}
use Rattle.written_texts.specs.Words.{IsWritten}
use Rattle.written_texts.proofs.WordLemmas.{row-written}
use Rattle.written_texts.proofs.WrittenWords.{word-lettered, word-number, word-decimal, written-one}
use Rattle.round_trips.specs.InsideTaking.{row_at, rows_at, IsTaken, taken_none}
use Rattle.written_texts.proofs.NumbersRead.{whole_of-decimal, are_digits-decimal, dec_of-text}
use Rattle.text_base.proofs.AllLemmas.{all_append}
use Rattle.round_trips.proofs.TakenLemmas.{with_lines, taken_then, IsLineFine, line_taken}
use Rattle.round_trips.proofs.PairPieces.{decimal_no_head}
use Rattle.nl_lines.proofs.TotalLemmas.{nodes-append}

-- ---- operators

-- as many operands as a row of the table says
abbrev FitsOperands : Option Operands → ℕ → Type 0
FitsOperands None k = ⊥
FitsOperands (Some One) k = k ≡ 1
FitsOperands (Some Two) k = k ≡ 2
FitsOperands (Some OnNextLine) k = 1 ≤ k

operands_of-class : (c : OpClass) (k : ℕ) → Takes (rule_of c) k → FitsOperands (operands_of (opcode_of c)) k × (opcode_of c ≤ 54)
unfolding operands_of
operands_of-class Refused k h = absurd h
operands_of-class c k h = (h, omega arith)

operands_known : (o k : ℕ) → Takes (rule_of (class_of o)) k → FitsOperands (operands_of o) k × (o ≤ 54)
operands_known o k h = subst (λ p. FitsOperands (operands_of p) k × (p ≤ 54)) (opcode_of-known o (known o k h)) (operands_of-class (class_of o) k h)

pub opcode_small : (o k : ℕ) → Takes (rule_of (class_of o)) k → o ≤ 54
opcode_small o k h = let is = operands_known o k h in is.1

-- ---- the lines of nodes

-- the words of a node; of an operator, its opcode
abbrev pub node_words : Node → WordLine
node_words (Num d) = (codes "n" ++ text_of d) ∷ []
node_words (Var j) = (codes "v" ++ decimal j) ∷ []
node_words (Defined i) = (codes "v" ++ decimal i) ∷ []
node_words (Op o k) = (codes "o" ++ decimal o) ∷ []

-- the node uses what is there
abbrev pub IsNodeFine : Counts → List Definition → Node → Type 0
IsNodeFine c ds (Num d) = Unit {0}
IsNodeFine c ds (Var j) = j < c.n_var
IsNodeFine c ds (Defined i) = (c.n_var ≤ i) × (i < c.n_var + defined_count c) × (is_defined ds i ≡ true)
IsNodeFine c ds (Op o k) = Takes (rule_of (class_of o)) k × (k ≤ 2 ^ 22)

words_written : (c : Counts) (ds : List Definition) (m : Node) → AreCounts c → IsNodeFine c ds m → IsWritten (node_words m)
words_written c ds (Num d) few h = written-one (codes "n" ++ text_of d) (word-number 110 d (omega arith))
words_written c ds (Var j) few h = let small : j < 2 ^ 31 = omega arith in written-one (codes "v" ++ decimal j) (word-lettered 118 j (omega arith) (lt_trans small (lit< tt)))
words_written c ds (Defined i) few h = let small : i < 2 ^ 31 = omega arith in written-one (codes "v" ++ decimal i) (word-lettered 118 i (omega arith) (lt_trans small (lit< tt)))
words_written c ds (Op o k) few h =
    let is = operands_known o k h.0 in
    let small : o < 2 ^ 31 = omega (arith, is.1) in
    written-one (codes "o" ++ decimal o) (word-lettered 111 o (omega arith) (lt_trans small (lit< tt)))

no_head : (m : Node) → is_head (node_words m) ≡ false
no_head (Num d) = refl
no_head m = refl

form_fine : (c : Counts) (d : Draft) (m : Node) → AreCounts c → IsNodeFine c d.definitions m → first_reason (node_form_tests c d (node_words m)) ≡ None
unfolding node_form_tests
form_fine c d (Num x) few h = rw (dec_of-text x) refl
form_fine c d (Var j) few h =
    let small : j < 2 ^ 31 = omega arith in
    rw (are_digits-decimal j small, whole_of-decimal j small, lt-ltb j (c.n_var + defined_count c) (omega arith), lt-leb c.n_var j h) refl
form_fine c d (Defined i) few h =
    let small : i < 2 ^ 31 = omega arith in
    rw (are_digits-decimal i small, whole_of-decimal i small, lt-ltb i (c.n_var + defined_count c) h.1, le-leb c.n_var i h.0, h.2) refl
form_fine c d (Op o k) few h =
    let is = operands_known o k h.0 in
    by (operands_of o) refl is.0 (omega (arith, is.1))
  where
    by : (x : Option Operands) → operands_of o ≡ x → FitsOperands x k → o < 2 ^ 31 → first_reason (node_form_tests c d ((codes "o" ++ decimal o) ∷ [])) ≡ None
    by None e f small = absurd f
    by (Some x) e f small = rw (are_digits-decimal o small, whole_of-decimal o small, e) refl

-- ---- a piece within its expression

-- the piece has these nodes and this pending opcode
pub record IsInTree (c : Counts) (p : Piece) (ns : List Node) (pending : Option Pending) : Type 0 where
  pub tree : has_tree p.head ≡ true
  pub late : pair_count p.head ≤ length p.rows
  pub nodes : only_nodes (piece_nodes c p) ≡ ns
  pub pend : piece_pending p ≡ pending

-- with a row that adds these nodes, and leaves this opcode pending
in_tree-more : {c : Counts} {p : Piece} {ns ms : List Node} {pending next : Option Pending} (row : NumberedRow)
    → only_nodes (last_nodes c.n_var pending row) ≡ ms → last_pending pending row ≡ next → IsInTree c p ns pending
    → IsInTree c (longer p row) (ns ++ ms) next
in_tree-more {c = c} {p = p} {ns = ns} {pending = pending} row new after h =
    let rows = late_tree p row h.tree h.late in
    let pend : pending_from None (tree_rows p) ≡ pending = h.pend in
    record {
      tree = h.tree;
      late = omega (arith, h.late, length-append p.rows (row ∷ []));
      nodes = ap (λ rs. only_nodes (nodes_from c.n_var None rs)) rows
          ∙ ap only_nodes (nodes-more c.n_var None (tree_rows p) row)
          ∙ map-append (λ n. n.node) (piece_nodes c p) (last_nodes c.n_var (pending_from None (tree_rows p)) row)
          ∙ ap₂ (λ xs o. xs ++ only_nodes (last_nodes c.n_var o row)) h.nodes pend
          ∙ ap (λ ms. ns ++ ms) new;
      pend = ap (pending_from None) rows ∙ pending-more None (tree_rows p) row ∙ ap (λ o. last_pending o row) pend ∙ after;
    }

pub tree_awaited : (c : Counts) (p : Piece) (ns : List Node) (pending : Option Pending) → IsInTree c p ns pending → awaited_in c p ≡ tree_awaits (piece_nodes c p) pending
unfolding awaited_in
tree_awaited c p ns pending h =
    let past : nat_lt (length p.rows) (line_count c p.head) ≡ false = le-ltb (length p.rows) (line_count c p.head) (omega (arith, h.late, tree_count c p.head h.tree)) in
    ap₂ (λ b t. if b then line_kind p.head else (if t then tree_awaits (piece_nodes c p) (piece_pending p) else Nothing)) past h.tree
    ∙ ap (tree_awaits (piece_nodes c p)) h.pend

pub node_awaited : (c : Counts) (p : Piece) (ns : List Node) → IsInTree c p ns None → 0 < awaited ns → awaited_in c p ≡ NodeLine
node_awaited c p ns h some =
    let more : (awaited (only_nodes (piece_nodes c p)) == 0) ≡ false = rw h.nodes (not_zero (awaited ns) some) in
    tree_awaited c p ns None h ∙ rw more refl
  where
    not_zero : (n : ℕ) → 0 < n → (n == 0) ≡ false
    not_zero n lt = grind (arith, nat_tests)

pub tree_done : (c : Counts) (p : Piece) (ns : List Node) → IsInTree c p ns None → awaited ns ≡ 0 → awaited_in c p ≡ Nothing
tree_done c p ns h none =
    let all : (awaited (only_nodes (piece_nodes c p)) == 0) ≡ true = rw (h.nodes, none) refl in
    tree_awaited c p ns None h ∙ rw all refl

node_room : (c : Counts) (before : List Piece) (p : Piece) (ns : List Node) (pending : Option Pending)
    → IsInTree c p ns pending → node_total c before + length ns < 2 ^ 22 → node_total c (before ++ p ∷ []) < 2 ^ 22
node_room c before p ns pending h room =
    let size : length (piece_nodes c p) ≡ length ns = sym (length-map (piece_nodes c p) (λ n. n.node)) ∙ ap (length {A = Node}) h.nodes in
    omega (arith, nodes-append c before p, size, room)

-- what a row says after no pending opcode
abbrev IsRead : ℕ → WordLine → Option Node → Option ℕ → Type 0
IsRead n words node opcode = (node_in n words ≡ node) × (opcode_in words ≡ opcode)

number_read : (n : ℕ) (d : Dec) → IsRead n (node_words (Num d)) (Some (Num d)) None
unfolding node_in opcode_in
number_read n d = (rw (dec_of-text d) refl, refl)

variable_read : (n i : ℕ) → i < 2 ^ 31 → IsRead n ((codes "v" ++ decimal i) ∷ []) (Some (variable_node n i)) None
unfolding node_in opcode_in
variable_read n i small = (rw (whole_of-decimal i small) refl, refl)

operator_read : (n o : ℕ) (x : Operands) → o < 2 ^ 31 → operands_of o ≡ Some x → IsRead n ((codes "o" ++ decimal o) ∷ []) (fixed_node o (Some x)) (counted_opcode o (Some x))
unfolding node_in opcode_in
operator_read n o x small e = (rw (whole_of-decimal o small, e) refl, rw (whole_of-decimal o small, e) refl)

count_fine : (k : ℕ) → 1 ≤ k → k ≤ 2 ^ 22 → first_reason (operand_tests (decimal k ∷ [])) ≡ None
unfolding operand_tests
count_fine k some few =
    let small : k < 2 ^ 31 = omega arith in
    rw (are_digits-decimal k small, whole_of-decimal k small, lt-ltb 0 k some, lt-ltb k (2 ^ 22 + 1) (omega arith)) refl

-- ---- lines within an expression

rows_at-append : (n : ℕ) (xs ys : List WordLine) → rows_at n (xs ++ ys) ≡ rows_at n xs ++ rows_at (n + length xs) ys
rows_at-append n [] ys = ap (λ k. rows_at k ys) (omega arith)
rows_at-append n (x ∷ xs) ys = ap (λ rs. row_at n x ∷ rs) (rows_at-append (n + 1) xs ys ∙ ap (λ k. rows_at (n + 1) xs ++ rows_at k ys) (omega arith))

pub with_lines-append : (p : Piece) (n m : ℕ) (xs ys : List WordLine) → m ≡ n + length xs → with_lines (with_lines p n xs) m ys ≡ with_lines p n (xs ++ ys)
with_lines-append p n m xs ys e =
    ap (λ rs. record p { rows = rs }) (append_assoc p.rows (rows_at n xs) (rows_at m ys) ∙ ap (λ rs. p.rows ++ rs) (ap (λ k. rows_at n xs ++ rows_at k ys) e ∙ sym (rows_at-append n xs ys)))

-- lines that are taken within an expression, and the nodes and the pending opcode after them
pub record TakesNodes (o : List ℤ) (c : Counts) (before : List Piece) (p : Piece) (n : ℕ) (lines : List WordLine) (ns : List Node) (pending : Option Pending) : Type 0 where
  pub taken : IsTaken o c (before ++ p ∷ []) n lines (before ++ with_lines p n lines ∷ [])
  pub within : IsInTree c (with_lines p n lines) ns pending

-- a tree is awaited before each node
abbrev pub AreAwaited : ℕ → List Node → Type 0
AreAwaited w [] = Unit {0}
AreAwaited w (m ∷ ms) = (0 < w) × AreAwaited (w - 1 + operand_count m) ms

-- after pieces that say the draft d, of a file with few of all
module _ (o : List ℤ) (c : Counts) (before : List Piece) (d : Draft) (few : AreCounts c) (said : draft_of o c before ≡ d) where
  takes_row : (p : Piece) (n : ℕ) (words : WordLine) (a : Awaited) (ns ms : List Node) (pending next : Option Pending) → IsLineFine o c before p words a → IsInTree c p ns pending
      → only_nodes (last_nodes c.n_var pending (row_at n words)) ≡ ms → last_pending pending (row_at n words) ≡ next → TakesNodes o c before p n (words ∷ []) (ns ++ ms) next
  takes_row p n words a ns ms pending next line h new after = record { taken = line_taken o c before p n words a line; within = in_tree-more (row_at n words) new after h }

  takes_then : (p : Piece) (n m : ℕ) (xs ys : List WordLine) (ns ms : List Node) (pending next : Option Pending)
      → m ≡ n + length xs → TakesNodes o c before p n xs ns pending
      → TakesNodes o c before (with_lines p n xs) m ys ms next
      → TakesNodes o c before p n (xs ++ ys) ms next
  takes_then p n m xs ys ns ms pending next e f g =
      let same = with_lines-append p n m xs ys e in
      record {
        taken = subst (λ q. IsTaken o c (before ++ p ∷ []) n (xs ++ ys) (before ++ q ∷ [])) same (taken_then f.taken e g.taken);
        within = subst (λ q. IsInTree c q ms next) same g.within;
      }

  node_line : (p : Piece) (ns : List Node) (m : Node) → IsInTree c p ns None → 0 < awaited ns
      → IsNodeFine c d.definitions m → node_total c before + length ns < 2 ^ 22
      → IsLineFine o c before p (node_words m) NodeLine
  unfolding node_tests
  node_line p ns m h some fine room =
      let now = before ++ p ∷ [] in
      let same : draft_of o c now ≡ d = draft_before o c before p (tree_says p.head h.tree) (rw (node_awaited c p ns h some) refl) ∙ said in
      let form : first_reason (node_form_tests c (draft_of o c now) (node_words m)) ≡ None = ap (λ e. first_reason (node_form_tests c e (node_words m))) same ∙ form_fine c d m few fine in
      record {
        written = words_written c d.definitions m few fine;
        is = no_head m;
        awaited = node_awaited c p ns h some;
        fine = reason_after (node_form_tests c (draft_of o c now) (node_words m))
            ((nat_le (2 ^ 22) (node_total c now), TooLarge) ∷ []) form
            ∙ not_large (node_total c now) (node_room c before p ns None h room);
      }

  one_row : (p : Piece) (ns : List Node) (m r : Node) (n : ℕ) → IsInTree c p ns None → 0 < awaited ns → IsNodeFine c d.definitions m → node_total c before + length ns < 2 ^ 22
      → IsRead c.n_var (node_words m) (Some r) None → TakesNodes o c before p n (node_words m ∷ []) (ns ++ r ∷ []) None
  one_row p ns m r n h some fine room read =
      let w = row-written (node_words m) (words_written c d.definitions m few fine) in
      takes_row p n (node_words m) NodeLine ns (r ∷ []) None None (node_line p ns m h some fine room) h (rw (w, read.0) refl) (rw (w, read.1) refl)

  -- an opcode with its number of operands on the next row
  counted_rows : (p : Piece) (ns : List Node) (opcode k n : ℕ) → IsInTree c p ns None → 0 < awaited ns → IsNodeFine c d.definitions (Op opcode k) → node_total c before + length ns < 2 ^ 22
      → operands_of opcode ≡ Some OnNextLine → opcode < 2 ^ 31 → 1 ≤ k → TakesNodes o c before p n (((codes "o" ++ decimal opcode) ∷ []) ∷ (decimal k ∷ []) ∷ []) (ns ++ Op opcode k ∷ []) None
  counted_rows p ns opcode k n h some fine room e small more =
      let words : WordLine = (codes "o" ++ decimal opcode) ∷ [] in
      let count : WordLine = decimal k ∷ [] in
      let q : Pending = record { opcode = opcode; line = n } in
      let least : k < 2 ^ 31 = omega (arith, fine.1) in
      let read = operator_read c.n_var opcode OnNextLine small e in
      let w = row-written words (words_written c d.definitions (Op opcode k) few fine) in
      let one = takes_row p n words NodeLine ns [] None (Some q) (node_line p ns (Op opcode k) h some fine room) h (rw (w, read.0) refl) (rw (w, read.1) refl) in
      let first = with_lines p n (words ∷ []) in
      let within : IsInTree c first ns (Some q) = subst (λ ms. IsInTree c first ms (Some q)) (append-nil ns) one.within in
      let written = written-one (decimal k) (word-decimal k (lt_trans least (lit< tt))) in
      let line : IsLineFine o c before first count OperandCount =
      record {
        written = written;
        is = decimal_no_head k [] least;
        awaited = tree_awaited c first ns (Some q) within;
        fine = count_fine k more fine.1;
      } in
      let two = takes_row first (n + 1) count OperandCount ns (Op opcode k ∷ []) (Some q) None line within (rw (row-written count written, whole_of-decimal k least) refl) refl in
      takes_then p n (n + 1) (words ∷ []) (count ∷ []) (ns ++ []) (ns ++ Op opcode k ∷ []) (Some q) None refl one two

  node_taken : (p : Piece) (ns : List Node) (m : Node) (n : ℕ) → IsInTree c p ns None → 0 < awaited ns
      → IsNodeFine c d.definitions m → node_total c before + length ns < 2 ^ 22
      → TakesNodes o c before p n (node_lines m) (ns ++ m ∷ []) None
  node_taken p ns (Num x) n h some fine room = one_row p ns (Num x) (Num x) n h some fine room (number_read c.n_var x)
  node_taken p ns (Var j) n h some fine room =
      let read = variable_read c.n_var j (omega (arith, fine, few.variables)) in
      let same : variable_node c.n_var j ≡ Var j = rw (lt-ltb j c.n_var fine) refl in
      one_row p ns (Var j) (Var j) n h some fine room (read.0 ∙ ap Some same, read.1)
  node_taken p ns (Defined i) n h some fine room =
      let read = variable_read c.n_var i (omega (arith, fine.0, fine.1, few.variables, few.defined)) in
      let same : variable_node c.n_var i ≡ Defined i = rw (le-ltb i c.n_var fine.0) refl in
      one_row p ns (Defined i) (Defined i) n h some fine room (read.0 ∙ ap Some same, read.1)
  node_taken p ns (Op opcode k) n h some fine room =
      let is = operands_known opcode k fine.0 in
      by (operands_of opcode) refl is.0 (omega (arith, is.1))
    where
      fixed : (j : ℕ) → k ≡ j → IsRead c.n_var ((codes "o" ++ decimal opcode) ∷ []) (Some (Op opcode j)) None
          → TakesNodes o c before p n (((codes "o" ++ decimal opcode) ∷ []) ∷ []) (ns ++ Op opcode k ∷ []) None
      fixed j f read = one_row p ns (Op opcode k) (Op opcode k) n h some fine room (read.0 ∙ ap (λ j. Some (Op opcode j)) (sym f), read.1)

      by : (x : Option Operands) → operands_of opcode ≡ x → FitsOperands x k → opcode < 2 ^ 31 → TakesNodes o c before p n (operator_lines opcode k) (ns ++ Op opcode k ∷ []) None
      by None e f small = absurd f
      by (Some One) e f small = rw e (fixed 1 f (operator_read c.n_var opcode One small e))
      by (Some Two) e f small = rw e (fixed 2 f (operator_read c.n_var opcode Two small e))
      by (Some OnNextLine) e f small = rw e (counted_rows p ns opcode k n h some fine room e small f)

  pub nodes_taken : (p : Piece) (ns ms : List Node) (n : ℕ) → IsInTree c p ns None → AreAwaited (awaited ns) ms
      → AllByRecursion (IsNodeFine c d.definitions) ms → node_total c before + (length ns + length ms) ≤ 2 ^ 22
      → TakesNodes o c before p n (flat_map node_lines ms) (ns ++ ms) None
  nodes_taken p ns [] n h w fine room =
      let same : with_lines p n [] ≡ p = ap (λ rs. record p { rows = rs }) (append-nil p.rows) in
      record {
        taken = subst (λ q. IsTaken o c (before ++ p ∷ []) n [] (before ++ q ∷ [])) (sym same) taken_none;
        within = subst (λ q. IsInTree c q (ns ++ []) None) (sym same) (subst (λ xs. IsInTree c p xs None) (sym (append-nil ns)) h);
      }
  nodes_taken p ns (m ∷ ms) n h w fine room =
      let one = node_taken p ns m n h w.0 fine.0 (omega (arith, room)) in
      let next = ns ++ m ∷ [] in
      let waits : AreAwaited (awaited next) ms = subst (λ k. AreAwaited k ms) (sym (awaited-push 1 ns m)) w.1 in
      let more = nodes_taken (with_lines p n (node_lines m)) next ms (n + length (node_lines m)) one.within waits fine.1 (omega (arith, room, length-append ns (m ∷ []))) in
      let all = takes_then p n (n + length (node_lines m)) (node_lines m) (flat_map node_lines ms) next (next ++ ms) None None refl one more in
      subst (λ xs. TakesNodes o c before p n (flat_map node_lines (m ∷ ms)) xs None) (append_assoc ns (m ∷ []) ms) all

-- ---- the nodes of a tree that may stand in a file

mutual
  size_prefix : {t : Tree} {ns : List Node} → IsPrefix t ns → (length ns ≡ tree_size t) × (0 < length ns)
  size_prefix (a_number d) = (refl, omega arith)
  size_prefix (a_variable j) = (refl, omega arith)
  size_prefix (a_defined i) = (refl, omega arith)
  size_prefix (an_operation o ts ns k h) = let more = size_prefixes h in (omega (arith, more.0), omega arith)

  size_prefixes : {ts : Trees} {ns : List Node} → ArePrefixes ts ns → (length ns ≡ trees_size ts) × (count_of ts ≤ length ns)
  size_prefixes no_tree = (refl, omega arith)
  size_prefixes (one_more t ns ts ms h k) =
      let one = size_prefix h in
      let more = size_prefixes k in
      (omega (arith, length-append ns ms, one.0, more.0), omega (arith, length-append ns ms, one.1, more.1))

pub nodes-size : (t : Tree) (ns : List Node) → IsPrefix t ns → length ns ≡ tree_size t
nodes-size t ns h = let s = size_prefix h in s.0

-- the indices of defined variables are those of the file
abbrev pub AreInRange : ℕ → ℕ → List Definition → Type 0
AreInRange n k ds = AllByRecursion (λ d. (n ≤ d.index) × (d.index < n + k)) ds

pub definitions_in_range : (n k : ℕ) (known ds : List Definition) → AreDefinitions n k known ds → AreInRange n k ds
definitions_in_range n k known [] h = tt
definitions_in_range n k known (d ∷ ds) h = ((h.0.from, h.0.below), definitions_in_range n k (known ++ d ∷ []) ds h.1)

pub defined_in_range : (n k : ℕ) (ds : List Definition) (i : ℕ) → AreInRange n k ds → is_defined ds i ≡ true → (n ≤ i) × (i < n + k)
defined_in_range n k [] i h e = absurd cc
defined_in_range n k (d ∷ ds) i h e = by (d.index == i) refl e (defined_in_range n k ds i h.1)
  where
    by : (b : Bool) → (d.index == i) ≡ b → is_defined (d ∷ ds) i ≡ true → (is_defined ds i ≡ true → (n ≤ i) × (i < n + k)) → (n ≤ i) × (i < n + k)
    by true p e more = subst (λ j. (n ≤ j) × (j < n + k)) (eqb-true d.index i p) h.0
    by false p e more = more (rw p at e)

mutual
  fine_prefix : {t : Tree} {ns : List Node} → IsPrefix t ns → (c : Counts) (ds : List Definition)
      → AreInRange c.n_var (defined_count c) ds → IsTreeWithin c.n_var ds t → length ns ≤ 2 ^ 22
      → AllByRecursion (IsNodeFine c ds) ns
  fine_prefix (a_number d) c ds r w few = (tt, tt)
  fine_prefix (a_variable j) c ds r w few = (w, tt)
  fine_prefix (a_defined i) c ds r w few =
      let within = defined_in_range c.n_var (defined_count c) ds i r w in
      ((within.0, within.1, w), tt)
  fine_prefix (an_operation o ts ns k h) c ds r w few =
      let sizes = size_prefixes h in
      ((k, omega (arith, sizes.1)), fine_prefixes h c ds r w (omega arith))

  fine_prefixes : {ts : Trees} {ns : List Node} → ArePrefixes ts ns → (c : Counts) (ds : List Definition)
      → AreInRange c.n_var (defined_count c) ds → AreTreesWithin c.n_var ds ts → length ns ≤ 2 ^ 22
      → AllByRecursion (IsNodeFine c ds) ns
  fine_prefixes no_tree c ds r w few = tt
  fine_prefixes (one_more t ns ts ms h k) c ds r w few =
      let size = length-append ns ms in
      all_append (IsNodeFine c ds) ns ms (fine_prefix h c ds r w.0 (omega (arith, size))) (fine_prefixes k c ds r w.1 (omega (arith, size)))

pub nodes_fine : (t : Tree) (ns : List Node) → IsPrefix t ns → (c : Counts) (ds : List Definition)
    → AreInRange c.n_var (defined_count c) ds → IsTreeWithin c.n_var ds t → length ns ≤ 2 ^ 22
    → AllByRecursion (IsNodeFine c ds) ns
nodes_fine t ns h c ds r w few = fine_prefix h c ds r w few
