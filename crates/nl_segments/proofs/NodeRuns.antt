-- Nodes of an expression that are taken at once.
use Rattle.std.proofs.Common.{◌≡◌, ◌∙◌, ℕ, ◌+◌, ◌<◌, ◌^◌, ◌==◌, Bool, true, false, if◌then◌else◌, List, [], ◌∷◌, ◌++◌, drop, refl, sym, ap, subst, arith, append_assoc, append-nil, Option, Some, None}
use Rattle.std.specs.Prelude.{All, IfSome, IsSomeAnd, Ok}
use Rattle.std.specs.List.{range_with_len}
use Rattle.text_base.specs.Judged.{Decides}
use Rattle.text_base.specs.Words.{row_of, without_comment}
use Rattle.text_base.specs.declared.grammar.Front.{Front}
use Rattle.nl_model.specs.declared.node.Node.{Node}
use Rattle.nl_model.specs.Draft.{Draft}
use Rattle.nl_model.specs.Nodes.{awaited, tree_of}
use Rattle.nl_lines.specs.declared.awaited.Awaited.TheVariants.{Node as NodeLine}
use Rattle.nl_lines.specs.declared.head.Head.{Head}
use Rattle.nl_lines.specs.declared.head.Head.TheVariants.{Body as BodyHead, Objective, Definition}
use Rattle.nl_lines.specs.declared.leaf.Leaf.{Leaf}
use Rattle.nl_lines.specs.declared.node_row.NodeRow.TheVariants.{Whole}
use Rattle.nl_lines.specs.FirstRows.{IsFirstRow}
use Rattle.nl_lines.specs.Leaves.{IsLeafRow}
use Rattle.nl_lines.specs.NodeRows.{IsNodeKnown}
use Rattle.nl_lines.specs.Pieces.{is_nothing, keeps_pairs}
use Rattle.nl_lines.specs.Saying.{OwnerLines, PlaceLines, changed}
use Rattle.nl_segments.specs.Current.{Current, current_awaits, with_node_row}
use Rattle.nl_segments.specs.Held.{Body, HoldsSome, IsAwaiting}
use Rattle.nl_segments.specs.InsideLineSteps.{unless_complete}
use Rattle.nl_segments.specs.InsideNodeRuns.{AwaitsNodes, HasNodes, only_nodes_of, settled_draft, with_nodes}
use Rattle.nl_segments.specs.InsidePlaceSteps.{more_node_run, more_nodes, nodes_follow, with_node_line, with_node_run}
use Rattle.nl_segments.specs.InsideTermRuns.{TakesLines}
use Rattle.nl_segments.specs.InsideTreeSteps.{CanSettle, CanTakeRow, IsNextRow, IsSettled, counted_node_tests, with_tree}
use Rattle.nl_segments.proofs.NodeFronts.{IsReadNext, leaf_can, leaf_first}
use Rattle.nl_segments.proofs.NodeSteps.{beyond, fresh_tree, in_tree, wanted_here}
use Rattle.nl_segments.proofs.PairLines.{awaits_as, opened}
use Rattle.nl_lines.proofs.RunLemmas.{range_parts}
use Rattle.nl_segments.proofs.StandingLemmas.{changed_same, changed_twice, goes_on, none_taken, still_some}

-- ---- the lines of nodes

more_range : (o : OwnerLines) (first n : ℕ) → more_nodes (first + n) (more_node_run first n o) ≡ more_node_run first (n + 1) o
more_range o first n =
    ap (λ ns. record o { nodes = ns }) (append_assoc o.nodes (range_with_len first n) ((first + n) ∷ []) ∙ ap (λ ns. o.nodes ++ ns) (sym (range_parts first n 1)))

more_nodes_at : (owners : List OwnerLines) (i first n : ℕ) → changed (more_nodes (first + n)) (changed (more_node_run first n) owners i) i ≡ changed (more_node_run first (n + 1)) owners i
more_nodes_at owners i first n = changed_twice (more_nodes (first + n)) (more_node_run first n) (more_node_run first (n + 1)) (λ o. more_range o first n) owners i

no_nodes_at : (owners : List OwnerLines) (i first : ℕ) → changed (more_node_run first 0) owners i ≡ owners
no_nodes_at owners i first = changed_same (more_node_run first 0) (λ o. ap (λ ns. record o { nodes = ns }) (append-nil o.nodes)) owners i

run_more : (l : PlaceLines) (first n : ℕ) (h : Head) → keeps_pairs h ≡ false → with_node_line (with_node_run l first n h) (first + n) h ≡ with_node_run l first (n + 1) h
run_more l first n (BodyHead i) e = ap (λ os. record l { constraints = os }) (more_nodes_at l.constraints i first n)
run_more l first n (Objective k m) e = ap (λ os. record l { objectives = os }) (more_nodes_at l.objectives k first n)
run_more l first n (Definition i j u) e = absurd cc
run_more l first n head e = refl

run_none : (l : PlaceLines) (first : ℕ) (h : Head) → with_node_run l first 0 h ≡ l
run_none l first (BodyHead i) = ap (λ os. record l { constraints = os }) (no_nodes_at l.constraints i first)
run_none l first (Objective k m) = ap (λ os. record l { objectives = os }) (no_nodes_at l.objectives k first)
run_none l first head = refl

-- ---- a piece that is settled

pub settled_is : (d : Draft) (c : Current) → IsSettled d c (unless_complete c) (settled_draft d c)
settled_is d c = by (is_nothing (current_awaits c)) refl
  where
    by : (t : Bool) → is_nothing (current_awaits c) ≡ t → IsSettled d c (if t then None else Some c) (if t then with_tree d c.head c.pairs (tree_of c.nodes) else d)
    by true e = (e, refl)
    by false e = (e, refl, refl)

pub settled_as : (d new : Draft) (c : Current) (kept : Option Current) → IsSettled d c kept new → (unless_complete c ≡ kept) × (settled_draft d c ≡ new)
settled_as d new c (Some k) s = (rw s.0 (ap (λ x. Some x) (sym s.1)), rw s.0 (sym s.2))
settled_as d new c None s = (rw s.0 refl, rw s.0 (sym s.1))

-- ---- after so many nodes, where one more is awaited

module _ (d : Draft) (first ns : List Node) (before : ℕ) (b : Body) (cur : Current) (number n : ℕ) (a : AwaitsNodes d first before b cur) (some : 0 < awaited ns) where
  still_awaits : current_awaits (only_nodes_of cur ns) ≡ NodeLine
  still_awaits =
      let facts = beyond cur (ap in_tree a.awaits) in
      let more : (awaited ns == 0) ≡ false = grind arith in
      rw (facts.0, facts.1, more) refl

  still_held : (with_nodes b cur ns number n).current ≡ Some (only_nodes_of cur ns)
  still_held = ap (λ k. if is_nothing k then None else Some (only_nodes_of cur ns)) still_awaits

  same_draft : (with_nodes b cur ns number n).draft ≡ d
  same_draft = ap (λ k. if is_nothing k then with_tree b.draft cur.head cur.pairs (tree_of ns) else b.draft) still_awaits ∙ a.draft

  same_count : (with_nodes b cur ns number n).nodes ≡ before + n
  same_count = ap (λ (k : ℕ). k + n) a.count

  awaiting : IsAwaiting NodeLine (with_nodes b cur ns number n)
  awaiting = subst (λ o. IsSomeAnd o (λ c. current_awaits c ≡ NodeLine)) (sym still_held) still_awaits

-- all rows that say this are read as this node
abbrev pub IsReadAfter : Draft → ℕ → Leaf → Node → Type 0
IsReadAfter d count leaf node = (words : List (List ℕ)) → IsLeafRow words leaf → Decides (counted_node_tests d.counts d count words) (IsNextRow d.counts count words) (Ok (Whole node))

read_at : (old : Body) (d : Draft) (count : ℕ) (leaf : Leaf) (node : Node) → old.draft ≡ d → old.nodes ≡ count → IsReadAfter d count leaf node → IsReadNext old leaf (Whole node)
read_at old d count leaf node p q read words is =
    subst (λ x. Decides (counted_node_tests x.counts x old.nodes words) (IsNextRow x.counts old.nodes words) (Ok (Whole node))) (sym p)
    (subst (λ k. Decides (counted_node_tests d.counts d k words) (IsNextRow d.counts k words) (Ok (Whole node))) (sym q) (read words is))

pub no_node : (d : Draft) (first : List Node) (before : ℕ) (b : Body) (cur : Current) (number : ℕ) (piece : List ℕ) → AwaitsNodes d first before b cur
    → TakesLines b piece number (record { len = 0; lines = 0 }) (with_nodes b cur first number 0)
no_node d first before b cur number piece a =
    let wanted = wanted_here cur a.awaits in
    let some : 0 < awaited first = subst (λ ns. 0 < awaited ns) a.same_nodes wanted.1 in
    let none : b.nodes + 0 ≡ b.nodes = omega arith in
    let same_cur : only_nodes_of cur first ≡ cur = λ i. record cur { nodes = sym a.same_nodes i; pending = sym wanted.0 i } in
    let current : (with_nodes b cur first number 0).current ≡ b.current = still_held d first first before b cur number 0 a some ∙ ap (λ c. Some c) same_cur ∙ sym a.current in
    let draft : (with_nodes b cur first number 0).draft ≡ b.draft = same_draft d first first before b cur number 0 a some ∙ sym a.draft in
    let places = run_none b.places number cur.head in
    let same : with_nodes b cur first number 0 ≡ b = λ i. record b { draft = draft i; current = current i; nodes = none i; places = places i } in
    subst (TakesLines b piece number (record { len = 0; lines = 0 })) (sym same) (none_taken b piece number)

pub node_taken : (d : Draft) (first ns : List Node) (node : Node) (before : ℕ) (b : Body) (cur : Current) (number : ℕ)
    (piece : List ℕ) (front : Front) (len : ℕ) (leaf : Leaf) → AwaitsNodes d first before b cur → 0 < awaited ns
    → TakesLines b piece number front (with_nodes b cur ns number front.lines) → IsFirstRow (drop front.len piece) len (λ words. IsLeafRow words leaf) → IsReadAfter d (before + front.lines) leaf node
    → TakesLines b piece number (record { len = front.len + len; lines = front.lines + 1 }) (with_nodes b cur (ns ++ node ∷ []) number (front.lines + 1))
node_taken d first ns node before b cur number piece front len leaf a some h row read =
    let n = front.lines in
    let old = with_nodes b cur ns number n in
    let mid = only_nodes_of cur ns in
    let next = only_nodes_of cur (ns ++ node ∷ []) in
    let held = still_held d first ns before b cur number n a some in
    let draft = same_draft d first ns before b cur number n a some in
    let count = same_count d first ns before b cur number n a some in
    let more : b.nodes + n + 1 ≡ b.nodes + (n + 1) = omega arith in
    let new : Body = record old { draft = settled_draft old.draft next; current = unless_complete next; nodes = old.nodes + 1; places = with_node_line old.places (number + n) cur.head } in
    let step : TakesLines old (drop front.len piece) (number + n) (record { len = len; lines = 1 }) new =
    leaf_first old (drop front.len piece) (number + n) len leaf (Whole node) 1 (settled_draft old.draft next)
    (unless_complete next) (with_node_line old.places (number + n) cur.head)
    (awaiting d first ns before b cur number n a some) row
    (read_at old d (before + n) leaf node draft count read) refl
    (subst (λ o. IfSome o (λ c. with_node_line old.places (number + n) cur.head ≡ with_node_line old.places (number + n) c.head)) (sym held) refl)
    (subst (λ o. IfSome o (λ c. IsSettled old.draft (with_node_row c (number + n) (Whole node)) (unless_complete next) (settled_draft old.draft next))) (sym held) (settled_is old.draft next)) in
    let same : new ≡ with_nodes b cur (ns ++ node ∷ []) number (n + 1) =
    λ i. record new { draft = settled_draft ((draft ∙ sym a.draft) i) next; nodes = more i; places = run_more b.places number n cur.head a.given i } in
    subst (TakesLines b piece number (record { len = front.len + len; lines = n + 1 })) same
    (goes_on b old new piece (drop front.len piece) number front (record { len = len; lines = 1 }) h refl step)

-- the piece may take the node
pub can_node : (d : Draft) (first ns : List Node) (node : Node) (before : ℕ) (piece : List ℕ) (front : Front) (len : ℕ) (leaf : Leaf) (h : HasNodes d first before) → 0 < awaited ns
    → TakesLines h.body piece 1 front (with_nodes h.body h.current ns 1 front.lines)
    → IsFirstRow (drop front.len piece) len (λ words. IsLeafRow words leaf)
    → IsReadAfter d (before + front.lines) leaf node
    → CanTakeRow (with_nodes h.body h.current ns 1 front.lines).draft (with_nodes h.body h.current ns 1 front.lines).places (only_nodes_of h.current ns) (Whole node) 1
can_node d first ns node before piece front len leaf h some takes row read =
    let n = front.lines in
    let old = with_nodes h.body h.current ns 1 n in
    let held = still_held d first ns before h.body h.current 1 n h.is some in
    subst (λ o. IsSomeAnd o (λ c. CanTakeRow old.draft old.places c (Whole node) 1)) held
    (leaf_can old (drop front.len piece) len leaf (Whole node) 1 (awaiting d first ns before h.body h.current 1 n h.is some) (still_some h.body old piece 1 front takes h.held) row
    (read_at old d (before + n) leaf node (same_draft d first ns before h.body h.current 1 n h.is some) (same_count d first ns before h.body h.current 1 n h.is some) read))

pub few_read : (d : Draft) (count : ℕ) (piece : List ℕ) (len : ℕ) (leaf : Leaf) (node : Node) → IsFirstRow piece len (λ words. IsLeafRow words leaf) → IsReadAfter d count leaf node → count < 2 ^ 22
few_read d count piece len leaf node row read = (read (row_of (without_comment row.line)) row.row).1.few

-- ---- the nodes are known

pub known_first : (d : Draft) (first : List Node) (before : ℕ) → HasNodes d first before → All (IsNodeKnown d.counts.n_var d.definitions) first
known_first d first before h =
    let o = opened h.held.0 h.body h.current h.is.current h.held.1 in
    subst (λ ns. All (IsNodeKnown d.counts.n_var d.definitions) ns) h.is.same_nodes
    (subst (λ x. All (IsNodeKnown x.counts.n_var x.definitions) h.current.nodes) h.is.draft
    (subst (λ c. All (IsNodeKnown c.n_var h.body.draft.definitions) h.current.nodes) (sym h.held.1.counts)
    o.is_open.known))

pub known_next : (d : Draft) (first ns : List Node) (node : Node) (before : ℕ) (piece : List ℕ) (front : Front) (len : ℕ) (leaf : Leaf) (h : HasNodes d first before) → 0 < awaited ns
    → TakesLines h.body piece 1 front (with_nodes h.body h.current ns 1 front.lines)
    → IsFirstRow (drop front.len piece) len (λ words. IsLeafRow words leaf)
    → IsReadAfter d (before + front.lines) leaf node
    → All (IsNodeKnown d.counts.n_var d.definitions) (ns ++ node ∷ [])
known_next d first ns node before piece front len leaf h some takes row read =
    subst (λ x. All (IsNodeKnown x.counts.n_var x.definitions) (ns ++ node ∷ [])) (same_draft d first ns before h.body h.current 1 front.lines h.is some)
    (can_node d first ns node before piece front len leaf h some takes row read).known

-- ---- the whole run

pub awaits_nodes : (b : Body) (cur : Current) (line : ℕ) → b.current ≡ Some cur → IsAwaiting NodeLine b → nodes_follow b.places cur.head line ≡ true → AwaitsNodes b.draft cur.nodes b.nodes b cur
awaits_nodes b cur line is a next = record { draft = refl; current = is; same_nodes = refl; count = refl; awaits = awaits_as b cur NodeLine is a; given = given b.places cur.head line next }
  where
    given : (l : PlaceLines) (h : Head) (line : ℕ) → nodes_follow l h line ≡ true → keeps_pairs h ≡ false
    given l (BodyHead i) line e = refl
    given l (Objective k m) line e = refl
    given l h line e = absurd cc

pub can_settle : (b : Body) (cur next : Current) → b.current ≡ Some cur → IsAwaiting NodeLine b → HoldsSome b
    → next ≡ only_nodes_of cur next.nodes → All (IsNodeKnown b.draft.counts.n_var b.draft.definitions) next.nodes
    → CanSettle b.draft next
can_settle b cur next is a h same known =
    let tree = (beyond cur (ap in_tree (awaits_as b cur NodeLine is a))).1 in
    subst (CanSettle b.draft) (sym same) (record { tree = tree; fresh = λ e. fresh_tree h.0 b cur h.1 is tree; known = known })
