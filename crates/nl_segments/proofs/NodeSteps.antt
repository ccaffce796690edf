-- A row of an expression: what is wrong with it, that the file may take the whole expression, and what is held after it. In each lemma p is the last piece, after the pieces `before`.
use Rattle.nl_segments.proofs.PairHeld.{columns_kept, never, same_totals, sound_kept, held_longer}
use Rattle.std.proofs.Common.{◌≡◌, ◌∙◌, ℕ, ◌+◌, ◌<◌, ◌≤◌, ◌^◌, Bool, true, false, List, [], ◌∷◌, ◌++◌, length, refl, sym, ap, subst, arith, nat_lt, Option, Some, None, All, ◌==◌, nat_le, map}
use Rattle.std.specs.Prelude.{ℤ, if◌then◌else◌, IfSome, IsTrue, Ok, IsSomeAnd}
use Rattle.std.proofs.lemmas.Bool.{ltb-false, eqb-false, ltb-true, leb-true, and_parts, cond_both}
use Rattle.std.proofs.lemmas.List.{length-append, append-nil, length-map, map-append, take-append-le}
use Rattle.nl_header.specs.Head.{options_in, counts_in}
use Rattle.nl_model.specs.Trees.{Tree}
use Rattle.nl_model.specs.declared.header_counts.Counts.{Counts}
use Rattle.nl_model.specs.Draft.{Draft, is_given}
use Rattle.nl_model.specs.File.{Term}
use Rattle.nl_model.specs.Nodes.{tree_of, awaited}
use Rattle.nl_lines.specs.declared.awaited.Awaited.{Awaited}
use Rattle.nl_lines.specs.declared.awaited.Awaited.TheVariants.{Nothing, ColumnCount, Node as NodeLine, OperandCount}
use Rattle.nl_lines.specs.declared.head.Head.{Head}
use Rattle.nl_lines.specs.declared.head.Head.TheVariants.{Body as BodyHead, Objective, Definition, ColumnCounts, Suffix, DualGuesses}
use Rattle.nl_lines.specs.Rows.{NumberedRow}
use Rattle.nl_lines.specs.Nodes.{Placed, nodes_from, node_in, opcode_in}
use Rattle.nl_lines.specs.Pieces.{Piece, line_kind, line_count, pair_count, has_tree, is_nothing, is_complete, piece_nodes, piece_pending, piece_pairs, keeps_pairs}
use Rattle.nl_lines.specs.Tests.{has_index, is_linear, is_suffix, index_limit, is_same_piece, SaysOperandCount, node_form_tests, node_tests, operand_tests}
use Rattle.nl_lines.specs.Saying.{PlaceLines, more_lines, place_lines, piece_tree, draft_of, term_lines}
use Rattle.nl_segments.specs.Current.{Current, IsCurrent, current_awaits, nodes_await, IsPending, with_node_row}
use Rattle.nl_segments.specs.InsideTreeSteps.{IsSettled, with_tree, IsFresh, CanTakeRow, IsNextRow, row_count, with_row_line, counted_node_tests}
use Rattle.nl_model.specs.UseCounts.{use_count}
use Rattle.nl_lines.specs.PairTests.{IsMarked}
use Rattle.nl_lines.specs.NodeRows.{IsNodeKnown, IsFormedRow, IsRow}
use Rattle.nl_segments.specs.Held.{Body, IsHeld, IsLast, IsNodeLeft, IsOpen, HoldsSome, IsAwaiting, IsRowOf, TakesRow, words_refusal}
use Rattle.nl_lines.proofs.RowLemmas.{late_tree, late_pairs, last_nodes, nodes-more, tree_count}
use Rattle.nl_segments.proofs.CurrentLemmas.{awaits, IsRowStep, count_step, node_step, row_pairs, row_placed, with_row}
use Rattle.nl_lines.proofs.DraftLemmas.{says_whole, draft_before, with_body, with_objective, with_definition}
use Rattle.nl_lines.proofs.PieceLemmas.{longer, last-append, lines-append}
use Rattle.nl_lines.proofs.TotalLemmas.{nodes-append, pairs-append}
use Rattle.nl_segments.proofs.PairLines.{at, last_sound, opened, awaits_as, judged_by, Awaits, awaiting, has_owner, has_begun, last_taken, owner_there, place_node, place_same}
use Rattle.nl_model.specs.declared.node.Node.{Node}
use Rattle.nl_lines.specs.declared.pending.Pending.{Pending}
use Rattle.std.specs.List.{list_any}
use Rattle.nl_model.specs.declared.definition.Def.{Def as DefinitionValue}
use Rattle.nl_model.specs.HeaderRules.{defined_count}
use Rattle.nl_model.specs.Rules.{AreTermsBelow, is_defined}
use Rattle.nl_lines.specs.Heads.{is_in_range, is_head}
use Rattle.nl_segments.specs.Grammar.{Standing, counts_of, said}
use Rattle.nl_lines.proofs.FreshLaw.{none_before, gave_none}
use Rattle.std.proofs.lemmas.List.Elements.{All-push}
use Rattle.text_base.specs.Judged.{first_reason}
use Rattle.text_base.proofs.FirstReasons.{none_first}
use Rattle.nl_model.specs.declared.node.Node.TheVariants.{Op}
use Rattle.nl_lines.specs.declared.node_row.NodeRow.{NodeRow}
use Rattle.nl_lines.specs.declared.node_row.NodeRow.TheVariants.{Whole, Counted}
use Rattle.text_base.specs.Words.{word_at}
use Rattle.exact_numbers.specs.Numbers.{whole_of}
use Rattle.nl_segments.specs.InsidePlaceSteps.{with_node_line}
use Rattle.nl_lines.specs.declared.fault.NlReason.TheVariants.{TooLarge}
use Rattle.nl_lines.proofs.NodeLemmas.{node_known}
use Rattle.nl_lines.proofs.OpcodeLemmas.{counted_fit}
use Rattle.nl_lines.specs.declared.fault.NlReason.{NlReason}
use Rattle.nl_segments.specs.InsideKnownNodes.{HasGoodNode, IsGoodNode}

-- ---- where a row of an expression is awaited

abbrev pub in_tree : Awaited → Bool
in_tree NodeLine = true
in_tree OperandCount = true
in_tree kind = false

pub lines_before : (h : Head) → in_tree (line_kind h) ≡ false
lines_before (BodyHead i) = refl
lines_before head = refl

pub beyond : (cur : Current) → in_tree (current_awaits cur) ≡ true → (cur.left ≡ 0) × (has_tree cur.head ≡ true)
beyond cur e = by (nat_lt 0 cur.left) (has_tree cur.head) refl refl e
  where
    by : (t u : Bool) → nat_lt 0 cur.left ≡ t → has_tree cur.head ≡ u → in_tree (if t then line_kind cur.head else (if u then nodes_await cur.nodes cur.pending else Nothing)) ≡ true
        → (cur.left ≡ 0) × (has_tree cur.head ≡ true)
    by true u q r e = absurd (never (sym e ∙ lines_before cur.head))
    by false true q r e = ((let le = ltb-false 0 cur.left q in omega arith), r)
    by false false q r e = absurd (never (sym e))

-- where a node is awaited no opcode awaits its operands
pub node_wanted : (ns : List Node) (q : Option Pending) → nodes_await ns q ≡ NodeLine → (q ≡ None) × (0 < awaited ns)
node_wanted ns (Some q) e = absurd cc
node_wanted ns None e =
    (refl, cond_both (awaited ns == 0) Nothing NodeLine (λ a. a ≡ NodeLine → 0 < awaited ns) (λ s f. absurd cc) (λ s f. let some = eqb-false (awaited ns) 0 s in omega arith) e)

-- the lines before the expression of p are there
pub record IsInTree (c : Counts) (p : Piece) : Type 0 where
  pub tree : has_tree p.head ≡ true
  pub late : line_count c p.head ≤ length p.rows
  pub early : pair_count p.head ≤ length p.rows

pub in_tree_of : (c : Counts) (p : Piece) (cur : Current) → IsCurrent c p cur → in_tree (current_awaits cur) ≡ true → IsInTree c p
in_tree_of c p cur h e =
    let facts = beyond cur e in
    let tree = sym (ap has_tree h.head) ∙ facts.1 in
    let late : line_count c p.head ≤ length p.rows = omega (arith, facts.0, h.left) in
    record { tree = tree; late = late; early = omega (arith, late, tree_count c p.head tree) }

-- ---- the nodes with a row

pub tree_nodes : (c : Counts) (p : Piece) (row : NumberedRow) → IsInTree c p → piece_nodes c (longer p row) ≡ piece_nodes c p ++ last_nodes c.n_var (piece_pending p) row
tree_nodes c p row t = ap (λ rs. nodes_from c.n_var None rs) (late_tree p row t.tree t.early) ∙ nodes-more c.n_var None _ row

-- ---- the pieces

no_columns : (h : Head) → has_tree h ≡ true → line_kind h ≡ ColumnCount → ⊥
no_columns (ColumnCounts n) e k = cc
no_columns head e k = cc

-- ---- the draft

pub tree_says : (h : Head) → has_tree h ≡ true → says_whole h ≡ true
tree_says (BodyHead i) e = refl
tree_says (Objective k m) e = refl
tree_says (Definition i j u) e = refl
tree_says (Suffix k n) e = refl
tree_says head e = absurd cc

with_whole : (o : List ℤ) (c : Counts) (before : List Piece) (q : Piece) → has_tree q.head ≡ true → is_complete c q ≡ true
    → draft_of o c (before ++ q ∷ []) ≡ with_tree (draft_of o c before) q.head (piece_pairs q) (piece_tree c q)
with_whole o c before q tree whole = by q.head refl
  where
    back : (h : Head) → q.head ≡ h → with_tree (draft_of o c before) h (piece_pairs q) (piece_tree c q) ≡ with_tree (draft_of o c before) q.head (piece_pairs q) (piece_tree c q)
    back h e = ap (λ x. with_tree (draft_of o c before) x (piece_pairs q) (piece_tree c q)) (sym e)

    by : (h : Head) → q.head ≡ h → draft_of o c (before ++ q ∷ []) ≡ with_tree (draft_of o c before) q.head (piece_pairs q) (piece_tree c q)
    by (BodyHead i) e = with_body o c before q i e whole ∙ back (BodyHead i) e
    by (Objective k m) e = with_objective o c before q k m e whole ∙ back (Objective k m) e
    by (Definition i j u) e = with_definition o c before q i j u e whole ∙ back (Definition i j u) e
    by head e = absurd (never (sym tree ∙ ap has_tree e))

tree_pairs : (d : Draft) (h : Head) (ps qs : List Term) (t : Tree) → (IsTrue (keeps_pairs h) → ps ≡ qs) → with_tree d h ps t ≡ with_tree d h qs t
tree_pairs d (Definition i j u) ps qs t e = ap (λ ts. with_tree d (Definition i j u) ts t) (e refl)
tree_pairs d head ps qs t e = refl

tree_terms : (d : Draft) (h : Head) (ps : List Term) (t : Tree) → (with_tree d h ps t).terms ≡ d.terms
tree_terms d (BodyHead i) ps t = refl
tree_terms d head ps t = refl

settled_terms : (d : Draft) (next : Current) (kept : Option Current) (new : Draft) → IsSettled d next kept new → new.terms ≡ d.terms
settled_terms d next None new s = ap (λ x. x.terms) s.1 ∙ tree_terms d next.head next.pairs (tree_of next.nodes)
settled_terms d next (Some k) new s = ap (λ x. x.terms) s.2

-- ---- a row more

-- the row, and what is held of the piece with it
pub record IsRowMore (c : Counts) (p : Piece) (row : NumberedRow) (old : Body) (cur next : Current) (more : List Placed) : Type 0 where
  pub place : IsInTree c p
  pub is_next : IsCurrent c (longer p row) next
  pub pairs : next.pairs ≡ cur.pairs
  pub known : All (IsNodeKnown c.n_var old.draft.definitions) next.nodes
  pub nodes : piece_nodes c (longer p row) ≡ piece_nodes c p ++ more
  pub left : IfSome next.pending (λ q. old.nodes + length more < 2 ^ 22)

said_next : (o : List ℤ) (before : List Piece) (c : Counts) (p : Piece) (row : NumberedRow) (old : Body) (cur next : Current) (more : List Placed) (kept : Option Current) (new : Draft)
    → IsOpen c old.draft old.name p cur → IsRowMore c p row old cur next more
    → old.draft ≡ draft_of o c (before ++ p ∷ []) → IsSettled old.draft next kept new
    → new ≡ draft_of o c (before ++ longer p row ∷ [])
said_next o before c p row old cur next more (Some k) new begun m d s =
    let whole = tree_says p.head m.place.tree in
    s.2 ∙ d ∙ draft_before o c before p whole begun.incomplete ∙ sym (draft_before o c before (longer p row) whole (sym (ap is_nothing (awaits c (longer p row) next m.is_next)) ∙ s.0))
said_next o before c p row old cur next more None new begun m d s =
    let whole = tree_says p.head m.place.tree in
    let q = longer p row in
    let D = draft_of o c before in
    s.1
    ∙ ap (λ x. with_tree x next.head next.pairs (tree_of next.nodes)) (d ∙ draft_before o c before p whole begun.incomplete)
    ∙ ap (λ h. with_tree D h next.pairs (tree_of next.nodes)) m.is_next.head
    ∙ tree_pairs D p.head next.pairs (piece_pairs q) (tree_of next.nodes) (λ k. m.pairs ∙ begun.pairs k ∙ sym (late_pairs p row m.place.early))
    ∙ ap (λ ns. with_tree D p.head (piece_pairs q) (tree_of ns)) m.is_next.nodes
    ∙ sym (with_whole o c before q m.place.tree (sym (ap is_nothing (awaits c q next m.is_next)) ∙ s.0))

last_next : (c : Counts) (p : Piece) (row : NumberedRow) (old : Body) (cur next : Current) (more : List Placed) (kept : Option Current) (new : Draft)
    → IsOpen c old.draft old.name p cur → IsRowMore c p row old cur next more → IsSettled old.draft next kept new → IsLast c new old.name (Some (longer p row)) kept
last_next c p row old cur next more None new begun m s = sym (ap is_nothing (awaits c (longer p row) next m.is_next)) ∙ s.0
last_next c p row old cur next more (Some k) new begun m s =
    record {
      incomplete = sym (ap is_nothing (awaits c (longer p row) next m.is_next)) ∙ s.0;
      current = subst (IsCurrent c (longer p row)) (sym s.1) m.is_next;
      pairs = λ x. ap (λ (k : Current). k.pairs) s.1 ∙ m.pairs ∙ begun.pairs x ∙ sym (late_pairs p row m.place.early);
      known = subst (λ (d : Draft). All (IsNodeKnown c.n_var d.definitions) k.nodes) (sym s.2) (subst (λ (k : Current). All (IsNodeKnown c.n_var old.draft.definitions) k.nodes) (sym s.1) m.known);
      named = begun.named;
    }

few_next : (d : Draft) (next : Current) (kept : Option Current) (new : Draft) (n nodes : ℕ) → IsSettled d next kept new → IfSome next.pending (λ q. n < 2 ^ 22) → nodes ≡ n → IsNodeLeft kept nodes
few_next d next None new n nodes s left e = tt
few_next d next (Some k) new n nodes s left e =
    subst (λ (k : Current). IfSome k.pending (λ q. nodes < 2 ^ 22)) (sym s.1) (subst (λ m. IfSome next.pending (λ q. m < 2 ^ 22)) (sym e) left)

pub row_held : (header : List (List (List ℕ))) (before : List Piece) (p : Piece) (row : NumberedRow) (old : Body)
    (cur next : Current) (more : List Placed) (count : ℕ) (draft : Draft) (kept : Option Current) (places : PlaceLines)
    → IsHeld (at header (before ++ p ∷ [])) old → IsOpen (counts_in header) old.draft old.name p cur
    → IsRowMore (counts_in header) p row old cur next more → count ≡ length more → IsSettled old.draft next kept draft
    → places ≡ more_lines (counts_in header) (place_lines (counts_in header) before) (longer p row) p.head
    → IsHeld (at header (before ++ longer p row ∷ [])) (record old { draft = draft; current = kept; nodes = old.nodes + count; places = places })
row_held header before p row old cur next more count draft kept places h begun m counted settled place =
    let c = counts_in header in
    let q = longer p row in
    let pairs = late_pairs p row m.place.early in
    held_longer header before p row old (record old { draft = draft; current = kept; nodes = old.nodes + count; places = places }) h
    (record {
      sound = sound_kept c p row m.place.early (last_sound c before p h.sound);
      draft = said_next (options_in header) before c p row old cur next more kept draft begun m h.draft settled;
      last = last_next c p row old cur next more kept draft begun m settled;
      marks = λ once i lt. subst (λ l. IfSome l (IsMarked c old.marks)) (last-append before p) h.marks once i lt ∙ ap (λ ts. has_index ts i) (sym pairs);
      room = refl;
      nodes = omega (arith, counted, h.nodes, nodes-append c before p, nodes-append c before q, ap (length {A = Placed}) m.nodes ∙ length-append (piece_nodes c p) more);
      linear = h.linear ∙ sym (same_totals is_linear before p row pairs);
      values = h.values ∙ sym (same_totals is_suffix before p row pairs);
      columns = h.columns ∙ sym (columns_kept before p row (no_columns p.head m.place.tree));
      uses = λ j lt. h.uses j lt ∙ ap (λ ts. use_count ts j) (sym (settled_terms old.draft next kept draft settled));
      users = refl;
      places = place ∙ sym (lines-append c before q);
      seen = refl;
      suffixes = refl;
      few = few_next old.draft next kept draft (old.nodes + length more) (old.nodes + count) settled m.left (ap (λ n. old.nodes + n) counted);
      few_terms = h.few_terms;
    })

fresh_by : (header : List (List (List ℕ))) (before : List Piece) (p : Piece) (b : Body) (cur : Current) (h : Head)
    → IsHeld (at header (before ++ p ∷ [])) b → IsOpen (counts_in header) b.draft b.name p cur
    → has_tree p.head ≡ true → p.head ≡ h → IsFresh b.draft h cur.pairs
unfolding is_in_range
fresh_by header before p b cur h held begun tree e = by h e
  where
    c : Counts
    c = counts_in header

    o : List ℤ
    o = options_in header

    draft : b.draft ≡ draft_of o c before
    draft = held.draft ∙ draft_before o c before p (tree_says p.head tree) begun.incomplete

    none : (h : Head) → p.head ≡ h → list_any (is_same_piece h p.name) before ≡ false
    none h e = subst (λ h. list_any (is_same_piece h p.name) before ≡ false) e (none_before before p held.sound.apart)

    range : (h : Head) → p.head ≡ h → is_in_range b.draft.counts h ≡ true
    range h e = ap (λ x. is_in_range x h) held.counts ∙ ap (is_in_range c) (sym e) ∙ (last_sound c before p held.sound).range

    by : (h : Head) → p.head ≡ h → IsFresh b.draft h cur.pairs
    by (BodyHead i) e = (ltb-true _ _ (range (BodyHead i) e), ap (λ d. is_given d.bodies i) draft ∙ gave_none o c before (BodyHead i) p.name refl (none (BodyHead i) e))
    by (Objective k m) e = (ltb-true _ _ (range (Objective k m) e), ap (λ d. is_given d.objectives k) draft ∙ gave_none o c before (Objective k m) p.name refl (none (Objective k m) e))
    by (Definition i j u) e =
        let within = and_parts (nat_le b.draft.counts.n_var i) (nat_lt i (b.draft.counts.n_var + defined_count b.draft.counts)) (range (Definition i j u) e) in
        let same = begun.pairs (subst (λ h. IsTrue (keeps_pairs h)) (sym e) refl) in
        record {
          from = leb-true _ _ within.0;
          below = ltb-true _ _ within.1;
          fresh = ap (λ d. is_defined d.definitions i) draft ∙ gave_none o c before (Definition i j u) p.name refl (none (Definition i j u) e);
          terms =
              subst (λ (x : Counts). AreTermsBelow x.n_var cur.pairs) (sym held.counts)
              (subst (λ ts. AreTermsBelow c.n_var ts) (sym same)
              (subst (λ h. AreTermsBelow (index_limit c h) (piece_pairs p)) e (last_sound c before p held.sound).below));
          few = omega (arith, held.linear, held.few_terms, pairs-append is_linear before p (ap is_linear e), ap (length {A = Term}) same);
        }
    by (DualGuesses n) e = tt
    by head e = tt

pub fresh_tree : (s : Standing) (b : Body) (cur : Current) → IsHeld s b → b.current ≡ Some cur → has_tree cur.head ≡ true → IsFresh b.draft cur.head cur.pairs
fresh_tree s b cur h e tree =
    let o = opened s b cur e h in
    let same = o.is_open.current.head in
    subst (λ h. IsFresh b.draft h cur.pairs) (sym same) (fresh_by s.header o.before o.piece b cur o.piece.head (subst (λ x. IsHeld x b) o.whole h) o.is_open (sym (ap has_tree same) ∙ tree) refl)

-- ---- the last piece

pub wanted_here : (cur : Current) → current_awaits cur ≡ NodeLine → (cur.pending ≡ None) × (0 < awaited cur.nodes)
wanted_here cur e =
    let facts = beyond cur (ap in_tree e) in
    let here : current_awaits cur ≡ nodes_await cur.nodes cur.pending = rw (facts.0, facts.1) refl in
    node_wanted cur.nodes cur.pending (sym here ∙ e)

pub nodes_few : (s : Standing) (b : Body) (cur : Current) → IsHeld s b → b.current ≡ Some cur → length cur.nodes ≤ b.nodes
nodes_few s b cur h e =
    let o = opened s b cur e h in
    let held = subst (λ x. IsHeld x b) o.whole h in
    let c = counts_of s in
    omega (arith, held.nodes, nodes-append c o.before o.piece, ap (length {A = Node}) o.is_open.current.nodes ∙ length-map (piece_nodes c o.piece) (λ (x : Placed). x.node))

-- ---- places

same_terms : (c : Counts) (p : Piece) (row : NumberedRow) → IsInTree c p → term_lines (longer p row) ≡ term_lines p
same_terms c p row t = ap (map (λ r. r.line)) (take-append-le (pair_count p.head) p.rows (row ∷ []) t.early)

row_lines : (header : List (List (List ℕ))) (before : List Piece) (p : Piece) (row : NumberedRow) (b : Body)
    (cur : Current) (r : NodeRow) (line : ℕ) → IsHeld (at header (before ++ p ∷ [])) b → cur.head ≡ p.head
    → IsInTree (counts_in header) p
    → piece_nodes (counts_in header) (longer p row) ≡ piece_nodes (counts_in header) p ++ row_placed line r
    → with_row_line b.places line cur.head r ≡ more_lines (counts_in header) (place_lines (counts_in header) before) (longer p row) p.head
row_lines header before p row b cur (Whole n) line h head t nodes =
    let c = counts_in header in
    let l = place_lines c before in
    let x : Placed = record { node = n; line = line } in
    ap (λ l. with_node_line l line cur.head) (h.places ∙ lines-append c before p)
    ∙ ap (with_node_line (more_lines c l p p.head) line) head
    ∙ sym (place_node c l p row line p.head (owner_there c before p.head (last_sound c before p h.sound).range) t.tree
    (ap (map (λ (n : Placed). n.line)) nodes ∙ map-append (λ (n : Placed). n.line) (piece_nodes c p) (x ∷ [])) (same_terms c p row t))
row_lines header before p row b cur (Counted o) line h head t nodes =
    let c = counts_in header in
    h.places ∙ lines-append c before p ∙ sym (place_same c (place_lines c before) p row p.head (ap (map (λ (n : Placed). n.line)) (nodes ∙ append-nil (piece_nodes c p))) (same_terms c p row t))

-- ---- what is wrong with a row

pub node_judged : (s : Standing) (b : Body) (cur : Current) (words : List (List ℕ)) → IsHeld s b → b.current ≡ Some cur → current_awaits cur ≡ NodeLine → is_head words ≡ false
    → words_refusal s words ≡ first_reason (counted_node_tests b.draft.counts b.draft b.nodes words)
unfolding node_tests
node_judged s b cur words h here kind other =
    judged_by s b cur words NodeLine (opened s b cur here h) other kind
    ∙ sym (ap (λ c. first_reason (counted_node_tests c b.draft b.nodes words)) h.counts
    ∙ ap (λ d. first_reason (counted_node_tests (counts_of s) d b.nodes words)) h.draft
    ∙ ap (λ n. first_reason (counted_node_tests (counts_of s) (said s) n words)) h.nodes)

pub operands_judged : (s : Standing) (b : Body) (cur : Current) (words : List (List ℕ)) → IsHeld s b → b.current ≡ Some cur → current_awaits cur ≡ OperandCount → is_head words ≡ false
    → words_refusal s words ≡ first_reason (operand_tests words)
operands_judged s b cur words h here kind other = judged_by s b cur words OperandCount (opened s b cur here h) other kind

-- ---- a row that was read

abbrev IsRowKnown : ℕ → List DefinitionValue → NodeRow → Type 0
IsRowKnown n ds (Whole m) = IsNodeKnown n ds m
IsRowKnown n ds (Counted o) = Unit {0}

-- where a row of an expression is awaited, the row of these words in this line was read; its node or opcode stands in line `at_line`
pub record IsRowRead (b : Body) (words : List (List ℕ)) (line : ℕ) (cur : Current) (r : NodeRow) (at_line : ℕ) : Type 0 where
  pub here : b.current ≡ Some cur
  pub place : in_tree (current_awaits cur) ≡ true
  pub wanted : 0 < awaited cur.nodes
  pub other : is_head words ≡ false
  pub formed : IsFormedRow r
  pub known : IsRowKnown b.draft.counts.n_var b.draft.definitions r
  pub few : b.nodes < 2 ^ 22
  pub fine : (s : Standing) → IsHeld s b → words_refusal s words ≡ None
  pub step : (row : NumberedRow) → IsRowOf row words line → IsRowStep b.draft.counts.n_var cur row r at_line

node_known_in : (b : Body) (words : List (List ℕ)) (r : NodeRow)
    → IsRow (node_in b.draft.counts.n_var words) (opcode_in words) r
    → first_reason (counted_node_tests b.draft.counts b.draft b.nodes words) ≡ None
    → IsRowKnown b.draft.counts.n_var b.draft.definitions r
node_known_in b words (Whole n) is fine = node_known b.draft.counts b.draft words n is.0 (none_first (node_form_tests b.draft.counts b.draft words) ((nat_le (2 ^ 22) b.nodes, TooLarge) ∷ []) fine)
node_known_in b words (Counted o) is fine = tt

-- a node, or an opcode that awaits its number of operands
pub node_read : (b : Body) (words : List (List ℕ)) (line : ℕ) (cur : Current) (r : NodeRow) → b.current ≡ Some cur → IsAwaiting NodeLine b → is_head words ≡ false
    → first_reason (counted_node_tests b.draft.counts b.draft b.nodes words) ≡ None → IsNextRow b.draft.counts b.nodes words r → IsRowRead b words line cur r line
node_read b words line cur r here awaits other fine next =
    let kind = awaits_as b cur NodeLine here awaits in
    record {
      here = here;
      place = ap in_tree kind;
      wanted = (wanted_here cur kind).1;
      other = other;
      formed = next.read.1;
      known = node_known_in b words r next.read.0 fine;
      few = next.few;
      fine = λ s h. node_judged s b cur words h here kind other ∙ fine;
      step = λ row o.
          subst (λ n. IsRowStep b.draft.counts.n_var cur row r n) o.same_line
          (node_step b.draft.counts.n_var cur row r (wanted_here cur kind).0 (subst (λ ws. IsRow (node_in b.draft.counts.n_var ws) (opcode_in ws) r) (sym o.same_words) next.read.0));
    }

-- the number of operands of the opcode that awaits it
pub count_read : (b : Body) (words : List (List ℕ)) (line : ℕ) (cur : Current) (q : Pending) (k : ℕ) → b.current ≡ Some cur → IsAwaiting OperandCount b → is_head words ≡ false → cur.pending ≡ Some q
    → IfSome cur.pending (IsPending cur.nodes) → HoldsSome b → first_reason (operand_tests words) ≡ None → SaysOperandCount words k → IsRowRead b words line cur (Whole (Op q.opcode k)) q.line
count_read b words line cur q k here awaits other pending opcode held fine count =
    let kind = awaits_as b cur OperandCount here awaits in
    let counted : IsPending cur.nodes q = subst (λ o. IfSome o (IsPending cur.nodes)) pending opcode in
    record {
      here = here;
      place = ap in_tree kind;
      wanted = counted.1;
      other = other;
      formed = counted_fit q.opcode k counted.0 count.some count.few;
      known = tt;
      few = subst (λ o. IfSome o (λ q. b.nodes < 2 ^ 22)) pending (subst (λ o. IsNodeLeft o b.nodes) here held.1.few);
      fine = λ s h. operands_judged s b cur words h here kind other ∙ fine;
      step = λ row o. count_step b.draft.counts.n_var cur row q k pending (ap (λ ws. whole_of (word_at ws 0)) o.same_words ∙ count.says);
    }

-- ---- the piece with it

known_with : (n : ℕ) (ds : List DefinitionValue) (cur : Current) (r : NodeRow) (line : ℕ)
    → All (IsNodeKnown n ds) cur.nodes → IsRowKnown n ds r → All (IsNodeKnown n ds) (with_node_row cur line r).nodes
known_with n ds cur (Whole m) line known is = All-push (IsNodeKnown n ds) cur.nodes m known is
known_with n ds cur (Counted o) line known is = known

row_known : (s : Standing) (b : Body) (words : List (List ℕ)) (line at_line : ℕ) (cur : Current) (r : NodeRow) → IsHeld s b → IsRowRead b words line cur r at_line
    → All (IsNodeKnown b.draft.counts.n_var b.draft.definitions) (with_node_row cur at_line r).nodes
row_known s b words line at_line cur r h read =
    let o = opened s b cur read.here h in
    known_with b.draft.counts.n_var b.draft.definitions cur r at_line (subst (λ (c : Counts). All (IsNodeKnown c.n_var b.draft.definitions) cur.nodes) (sym h.counts) o.is_open.known) read.known

pub can_take : (b : Body) (words : List (List ℕ)) (line at_line : ℕ) (cur : Current) (r : NodeRow) → HoldsSome b
    → IsRowRead b words line cur r at_line → IsSomeAnd b.current (λ c. CanTakeRow b.draft b.places c r at_line)
can_take b words line at_line cur r held read =
    let s = held.0 in
    let h = held.1 in
    let tree = (beyond cur read.place).1 in
    subst (λ o. IsSomeAnd o (λ c. CanTakeRow b.draft b.places c r at_line)) (sym read.here)
    (record {
      wanted = read.wanted;
      few = omega (arith, nodes_few s b cur h read.here, read.few);
      formed = read.formed;
      owner = has_owner s b cur cur.head h read.here refl;
      begun = has_begun s b cur cur.head h read.here refl;
      tree = tree;
      fresh = λ whole. fresh_tree s b cur h read.here tree;
      known = row_known s b words line at_line cur r h read;
    })

count_is : (line : ℕ) (r : NodeRow) → row_count r ≡ length (row_placed line r)
count_is line (Whole n) = refl
count_is line (Counted o) = refl

room_after : (cur : Current) (line nodes : ℕ) (r : NodeRow) → nodes < 2 ^ 22 → IfSome (with_node_row cur line r).pending (λ q. nodes + length (row_placed line r) < 2 ^ 22)
room_after cur line nodes (Whole n) few = tt
room_after cur line nodes (Counted o) few = omega (arith, few)

pub row_taken : (b : Body) (words : List (List ℕ)) (line at_line : ℕ) (cur : Current) (r : NodeRow) (count : ℕ)
    (draft : Draft) (kept : Option Current) (places : PlaceLines) → IsRowRead b words line cur r at_line
    → count ≡ row_count r
    → IfSome b.current (λ c. places ≡ with_row_line b.places at_line c.head r) → IfSome b.current (λ c. IsSettled b.draft (with_node_row c at_line r) kept draft)
    → TakesRow b words line (Ok tt) (record b { draft = draft; current = kept; nodes = b.nodes + count; places = places })
row_taken b words line at_line cur r count draft kept places read counted lines settled =
    last_taken b (record b { draft = draft; current = kept; nodes = b.nodes + count; places = places }) cur words line read.other read.fine (λ s row is h.
    let c = counts_of s in
    let o = opened s b cur read.here h in
    let p = o.piece in
    let next = with_node_row cur at_line r in
    let held = subst (λ x. IsHeld x b) o.whole h in
    let place = in_tree_of c p cur o.is_open.current read.place in
    let step : IsRowStep c.n_var cur row r at_line = subst (λ (k : Counts). IsRowStep k.n_var cur row r at_line) h.counts (read.step row is) in
    let nodes = tree_nodes c p row place ∙ ap (λ ms. piece_nodes c p ++ ms) (ap (λ o. last_nodes c.n_var o row) (sym o.is_open.current.pending) ∙ step.nodes) in
    let more : IsRowMore c p row b cur next (row_placed at_line r) = record {
      place = place;
      is_next = with_row c p cur row r at_line o.is_open.current place.tree place.late step;
      pairs = row_pairs cur at_line r;
      known = subst (λ (k : Counts). All (IsNodeKnown k.n_var b.draft.definitions) next.nodes) h.counts (row_known s b words line at_line cur r h read);
      nodes = nodes;
      left = room_after cur at_line b.nodes r read.few;
    } in (
      o,
      row_held s.header o.before p row b cur next (row_placed at_line r) count draft kept places held o.is_open more (counted ∙ count_is at_line r)
          (subst (λ x. IfSome x (λ c. IsSettled b.draft (with_node_row c at_line r) kept draft)) read.here settled)
          ((subst (λ x. IfSome x (λ c. places ≡ with_row_line b.places at_line c.head r)) read.here lines) ∙ row_lines s.header o.before p row b cur r at_line held o.is_open.current.head place nodes),
    ))

-- ---- a node

pub node_refused : (b : Body) (words : List (List ℕ)) (reason : NlReason) → IsAwaiting NodeLine b
    → is_head words ≡ false → first_reason (counted_node_tests b.draft.counts b.draft b.nodes words) ≡ Some reason
    → (s : Standing) → IsHeld s b → words_refusal s words ≡ Some reason
node_refused b words reason awaits plain fault s h =
    let a = awaiting b NodeLine awaits in
    node_judged s b a.cur words h a.is a.awaits_it plain ∙ fault

read_of : (b : Body) (words : List (List ℕ)) (line : ℕ) (r : NodeRow) → IsAwaiting NodeLine b → (w : Awaits b NodeLine) → IsGoodNode b r words → IsRowRead b words line w.cur r line
read_of b words line r awaits w g = node_read b words line w.cur r w.is awaits g.plain g.fine g.read

pub can_keep_node : (b : Body) (r : NodeRow) (line : ℕ) → IsAwaiting NodeLine b → HasGoodNode b r → HoldsSome b → IsSomeAnd b.current (λ c. CanTakeRow b.draft b.places c r line)
can_keep_node b r line awaits some held =
    let w = awaiting b NodeLine awaits in
    can_take b some.0 line line w.cur r held (read_of b some.0 line r awaits w some.1)

pub node_kept : (b : Body) (r : NodeRow) (line count : ℕ) (draft : Draft) (kept : Option Current) (places : PlaceLines) → IsAwaiting NodeLine b → count ≡ row_count r
    → IfSome b.current (λ c. places ≡ with_row_line b.places line c.head r)
    → IfSome b.current (λ c. IsSettled b.draft (with_node_row c line r) kept draft) → (words : List (List ℕ))
    → IsGoodNode b r words
    → TakesRow b words line (Ok tt) (record b { draft = draft; current = kept; nodes = b.nodes + count; places = places })
node_kept b r line count draft kept places awaits counted lines settled words good =
    let w = awaiting b NodeLine awaits in
    row_taken b words line line w.cur r count draft kept places (read_of b words line r awaits w good) counted lines settled
