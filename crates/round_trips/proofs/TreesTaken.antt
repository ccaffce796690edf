-- Written bodies, objectives and defined variables are taken: a head, linear terms, and an expression.
use Rattle.std.proofs.Common.{◌≡◌, ◌∙◌, ℕ, suc, ◌+◌, ◌-◌, ◌^◌, ◌<◌, ◌≤◌, Bool, true, false, ℤ, List, [], ◌∷◌, ◌++◌}
use Rattle.std.proofs.Common.{length, refl, sym, ap, subst, arith, Some, None, append_assoc, append-nil, lt_trans, lit<}
use Rattle.std.proofs.Common.{map, replicate, Option, sum_by, ◌==◌, ◌&&◌, ◌||◌, ap₂}
use Rattle.std.specs.Prelude.{codes, slice_set}
use Rattle.std.proofs.lemmas.Bool.{lt-ltb, le-leb}
use Rattle.std.proofs.lemmas.List.{length-map, take-append-le, drop_all}
use Rattle.std.specs.List.{AllByRecursion, flat_map, slice_get, filter_map}
use Rattle.nl_model.specs.Trees.{Tree, Trees, count_of, tree_size}
use Rattle.nl_model.specs.File.{Term}
use Rattle.nl_model.specs.declared.definition.Def.{Def as Definition}
use Rattle.nl_model.specs.declared.objective.Objective.{Objective}
use Rattle.nl_model.specs.HeaderRules.{AreCounts, defined_count}
use Rattle.nl_model.specs.Rules.{most_terms, is_defined, AreTermsBelow, IsDefinition, AreDefinitions, IsTreeKnown}
use Rattle.nl_model.specs.declared.header_counts.Counts.{Counts}
use Rattle.nl_model.specs.declared.node.Node.{Node}
use Rattle.nl_model.specs.Draft.{Draft}
use Rattle.nl_model.specs.Nodes.{IsPrefix, a_number, a_variable, a_defined, an_operation, ArePrefixes, no_tree, one_more, awaited, awaited_after, first_of_trees, tree_of}
use Rattle.nl_model.proofs.Prefixes.{nodes_are_tree}
use Rattle.nl_lines.specs.declared.awaited.Awaited.TheVariants.{Nothing, Pair}
use Rattle.nl_lines.specs.declared.head.Head.{Head}
use Rattle.nl_lines.specs.declared.head.Head.TheVariants.{Body, Objective as ObjectiveHead, Definition as DefinitionHead}
use Rattle.exact_numbers.specs.Numbers.{whole_of}
use Rattle.nl_lines.specs.Heads.{head_of, is_in_range}
use Rattle.nl_lines.specs.Nodes.{nodes_from, pending_from}
use Rattle.nl_lines.proofs.RowLemmas.{tree_count}
use Rattle.nl_lines.specs.Pieces.{Piece, awaited_of, has_tree, line_kind, pair_count, piece_nodes, is_complete, piece_pairs, pair_in}
use Rattle.nl_lines.specs.Saying.{draft_of, with_piece, piece_tree}
use Rattle.nl_lines.specs.Tests.{is_linear, is_suffix, is_repeated, node_total, column_counts, is_same_piece}
use Rattle.text_base.specs.WordLines.{WordLine}
use Rattle.nl_writer.specs.Trees.{tree_lines}
use Rattle.nl_writer.specs.Written.{lettered, sense_word, body_piece, objective_piece, by_number, term_lines, definition_piece, term_line}
use Rattle.nl_writer.proofs.Writing.{node_lines-prefix}
use Rattle.written_texts.proofs.WrittenWords.{plain-word, word-lettered, written-two, word-decimal, written-three}
use Rattle.written_texts.specs.Words.{IsKeptWord}
use Rattle.round_trips.specs.InsideTaking.{IsTaken, rows_at}
use Rattle.written_texts.proofs.NumbersRead.{whole_of-decimal}
use Rattle.text_base.proofs.AllLemmas.{all_append}
use Rattle.round_trips.proofs.TakenLemmas.{with_lines, taken_then, begun_piece, IsHeadFine, head_taken, number_head, line_rows_size}
use Rattle.round_trips.proofs.NodesTaken.{IsNodeFine, IsInTree, AreAwaited, TakesNodes, nodes_taken, tree_done, nodes-size, AreInRange, nodes_fine, with_lines-append}
use Rattle.round_trips.specs.InsideStandings.{rank, IsStanding, Reaches}
use Rattle.round_trips.proofs.PairPieces.{pairs_more, uncounted, IsTermBelow, fresh_none, each_small, MayTake, pair_piece, pairs_fine, pair_piece-pairs, pairs_taken}
use Rattle.round_trips.proofs.StandingMore.{Adds, added_reaches, added_then, not_repeated, piece_added, same_standing, standing_as, same_reach, reaches_none, said_whole}
use Rattle.std.specs.Option.{option_map_or, option_map}
use Rattle.std.proofs.lemmas.Option.{slice_get_within, slice_get-map}
use Rattle.round_trips.proofs.PairSections.{filled, filled-set, filled-same, filled-all, filled-none, steps_reached, no_sum, terms_fine, no_more}
use Rattle.std.proofs.lemmas.Bool.Decides.{nat_tests}
use Rattle.std.proofs.lemmas.List.Folds.{list_any-append}
use Rattle.std.proofs.lemmas.List.Sums.{sum_by-cons}
use Rattle.std.specs.Fmt.{decimal}
use Rattle.nl_lines.specs.Rows.{row_words}
use Rattle.round_trips.specs.Writable.{HasNodes}
use Rattle.std.proofs.lemmas.List.Elements.{recursion_from_All}

-- ---- the nodes of a tree are awaited, and then no more

leaf_awaited : (w v : ℕ) (rest : List Node) → v ≡ suc w → AreAwaited w rest → ((0 < v) × AreAwaited (v - 1 + 0) rest) × (awaited_after (v - 1 + 0) rest ≡ awaited_after w rest)
leaf_awaited w v rest e h = let same : v - 1 + 0 ≡ w = omega arith in ((omega arith, subst (λ k. AreAwaited k rest) (sym same) h), ap (λ k. awaited_after k rest) same)

mutual
  awaits_prefix : {t : Tree} {ns : List Node} → IsPrefix t ns → (w v : ℕ) (rest : List Node) → v ≡ suc w
      → AreAwaited w rest → AreAwaited v (ns ++ rest) × (awaited_after v (ns ++ rest) ≡ awaited_after w rest)
  awaits_prefix (a_number d) w v rest e h = leaf_awaited w v rest e h
  awaits_prefix (a_variable j) w v rest e h = leaf_awaited w v rest e h
  awaits_prefix (a_defined i) w v rest e h = leaf_awaited w v rest e h
  awaits_prefix (an_operation o ts ns k more) w v rest e h = let later = awaits_prefixes more w (v - 1 + count_of ts) rest (omega arith) h in ((omega arith, later.0), later.1)

  awaits_prefixes : {ts : Trees} {ns : List Node} → ArePrefixes ts ns → (w v : ℕ) (rest : List Node)
      → v ≡ count_of ts + w → AreAwaited w rest → AreAwaited v (ns ++ rest)
      × (awaited_after v (ns ++ rest) ≡ awaited_after w rest)
  awaits_prefixes no_tree w v rest e h = let same : v ≡ w = omega arith in (subst (λ k. AreAwaited k rest) (sym same) h, ap (λ k. awaited_after k rest) same)
  awaits_prefixes (one_more t ns ts ms one more) w v rest e h =
      let later = awaits_prefixes more w (count_of ts + w) rest refl h in
      let first = awaits_prefix one (count_of ts + w) v (ms ++ rest) (omega arith) later.0 in
      (subst (AreAwaited v) (sym (append_assoc ns ms rest)) first.0, ap (awaited_after v) (append_assoc ns ms rest) ∙ first.1 ∙ later.1)

tree_awaits : (t : Tree) (ns : List Node) → IsPrefix t ns → AreAwaited 1 ns
tree_awaits t ns h = let all = awaits_prefix h 0 1 [] refl tt in subst (AreAwaited 1) (append-nil ns) all.0

none_awaited : (t : Tree) (ns : List Node) → IsPrefix t ns → awaited ns ≡ 0
none_awaited t ns h = let all = awaits_prefix h 0 1 [] refl tt in ap (awaited_after 1) (sym (append-nil ns)) ∙ all.1

-- ---- the piece of a tree

-- a tree whose nodes may stand in the file
pub record IsTreeReady (c : Counts) (ds : List Definition) (t : Tree) : Type 0 where
  pub nodes : HasNodes t
  pub known : IsTreeKnown c.n_var ds t

-- what is known of the counts and of the definitions that are known
pub record IsSized (c : Counts) (ds : List Definition) : Type 0 where
  pub counts : AreCounts c
  pub range : AreInRange c.n_var (defined_count c) ds

-- a head that so many pairs and a tree follow
pub record IsTreeHead (head : Head) (count : ℕ) : Type 0 where
  pub tree : has_tree head ≡ true
  pub kind : line_kind head ≡ Pair
  pub size : pair_count head ≡ count
  pub no_suffix : is_suffix head ≡ false
  pub columns : (p : Piece) → column_counts p head ≡ []

-- the piece of a head, terms and a tree
abbrev pub expression_at : ℕ → WordLine → Head → List Term → Tree → Piece
expression_at n words head terms t = with_lines (begun_piece n words head) (n + 1) (term_lines terms ++ tree_lines t)

-- after the terms no node has come
tree_begins : (c : Counts) (n : ℕ) (words : WordLine) (head : Head) (terms : List Term) → IsTreeHead head (length terms) → IsInTree c (pair_piece n words head terms) [] None
unfolding nodes_from pending_from
tree_begins c n words head terms g =
    let rows = line_rows_size (n + 1) term_line terms in
    let none = drop_all (pair_count head) (rows_at (n + 1) (term_lines terms)) (omega (arith, g.size, rows)) in
    record { tree = g.tree; late = omega (arith, g.size, rows); nodes = rw (g.tree, none) refl; pend = rw (g.tree, none) refl }

expression_same : (n : ℕ) (words : WordLine) (head : Head) (terms : List Term) (t : Tree)
    → with_lines (pair_piece n words head terms) (n + 1 + length (term_lines terms)) (tree_lines t)
    ≡ expression_at n words head terms t
expression_same n words head terms t = with_lines-append (begun_piece n words head) (n + 1) (n + 1 + length (term_lines terms)) (term_lines terms) (tree_lines t) refl

-- the terms of the piece are its first rows
expression_pairs : (n : ℕ) (words : WordLine) (head : Head) (terms : List Term) (t : Tree)
    → pair_count head ≡ length terms → AllByRecursion (λ t. t.0 < 2 ^ 31) terms
    → piece_pairs (expression_at n words head terms t) ≡ terms
expression_pairs n words head terms t size small =
    let rows = rows_at (n + 1) (term_lines terms) in
    let more = rows_at (n + 1 + length (term_lines terms)) (tree_lines t) in
    ap piece_pairs (sym (expression_same n words head terms t))
    ∙ ap (filter_map (λ r. pair_in (row_words r))) (take-append-le (pair_count head) rows more (omega (arith, size, line_rows_size (n + 1) term_line terms)))
    ∙ pair_piece-pairs n words head terms size small

expression_taken : (o : List ℤ) (c : Counts) (before : List Piece) (d : Draft) (n : ℕ) (words : WordLine) (head : Head)
    (terms : List Term) (t : Tree) (ms : List Node) → AreCounts c → draft_of o c before ≡ d
    → IsHeadFine c before words head
    → IsTreeHead head (length terms) → MayTake c before (begun_piece n words head) terms → IsPrefix t ms → AllByRecursion (IsNodeFine c d.definitions) ms → node_total c before + length ms ≤ 2 ^ 22
    → IsTaken o c before n (words ∷ term_lines terms ++ tree_lines t) (before ++ expression_at n words head terms t ∷ []) × IsInTree c (expression_at n words head terms t) ms None
expression_taken o c before d n words head terms t ms few says fine g may prefix all room =
    let p = begun_piece n words head in
    let m = n + 1 + length (term_lines terms) in
    let q = pair_piece n words head terms in
    let second = pairs_taken o c before p (n + 1) terms (record
    { kind = g.kind; lacks = omega (arith, g.size, tree_count c head g.tree) })
    (pairs_fine c before p (n + 1) terms (omega (arith, g.size)) may) in
    let front = taken_then (head_taken fine) refl second in
    let nodes = nodes_taken o c before d few says q [] ms m (tree_begins c n words head terms g) (tree_awaits t ms prefix) all (omega (arith, room)) in
    let third = subst (λ ls. TakesNodes o c before q m ls ms None) (node_lines-prefix t ms prefix) nodes in
    let same = expression_same n words head terms t in
    let whole = taken_then front (omega arith) third.taken in
    (subst (λ r. IsTaken o c before n (words ∷ term_lines terms ++ tree_lines t) (before ++ r ∷ [])) same whole, subst (λ r. IsInTree c r ms None) same third.within)

expression_added : {o : List ℤ} {c : Counts} {before : List Piece} {d e : Draft}
    {n next after linear values nodes suffixes linear' : ℕ} (words : WordLine) (head : Head) (terms : List Term)
    (t : Tree) → IsSized c d.definitions → d.counts ≡ c
    → IsHeadFine c before words head → IsTreeHead head (length terms) → MayTake c before (begun_piece n words head) terms → AllByRecursion (λ t. t.0 < 2 ^ 31) terms → next ≤ after → rank head < after
    → IsTreeReady c d.definitions t → nodes + tree_size t ≤ 2 ^ 22
    → (length (piece_pairs (expression_at n words head terms t)) ≡ length terms
    → linear + pairs_more is_linear (expression_at n words head terms t) ≡ linear')
    → (is_complete d.counts (expression_at n words head terms t) ≡ true
    → piece_pairs (expression_at n words head terms t) ≡ terms
    → piece_tree d.counts (expression_at n words head terms t) ≡ t
    → with_piece d (expression_at n words head terms t) ≡ e)
    → IsStanding o c before d next linear values nodes suffixes
    → Adds o c before n (words ∷ term_lines terms ++ tree_lines t) (expression_at n words head terms t) e after
    linear' values (nodes + tree_size t) suffixes
expression_added {o = o} {c = c} {before = before} {d = d} {n = n} {values = values} {nodes = nodes} words head terms t z counts fine g may small up above r room lin said s =
    let ms = r.nodes.nodes in
    let prefix = r.nodes.prefix in
    let p = expression_at n words head terms t in
    let same : length ms ≡ tree_size t = nodes-size t ms prefix in
    let all = nodes_fine t ms prefix c d.definitions z.range r.known.within (omega (arith, same, room)) in
    let both = expression_taken o c before d n words head terms t ms z.counts s.said fine g may prefix all (omega (arith, s.nodes_are, room, same)) in
    let done = tree_done c p ms both.1 (none_awaited t ms prefix) in
    let is : piece_tree c p ≡ t = ap (λ ns. tree_of ns) both.1.nodes ∙ ap first_of_trees (nodes_are_tree t ms prefix) in
    let complete : is_complete d.counts p ≡ true = rw (counts, done) refl in
    let size : length (piece_nodes c p) ≡ length ms = sym (length-map (piece_nodes c p) (λ n. n.node)) ∙ ap (length {A = Node}) both.1.nodes in
    let pairs = expression_pairs n words head terms t g.size small in
    piece_added p both.0 done up above (said complete pairs (ap (λ e. piece_tree e p) counts ∙ is))
    (lin (ap (length {A = Term}) pairs)) (uncounted is_suffix p g.no_suffix values)
    (ap (λ k. nodes + k) (size ∙ same)) (rw g.no_suffix (omega arith)) s

-- a tree without terms
tree_reached : {o : List ℤ} {c : Counts} {before : List Piece} {d e : Draft}
    {n next after linear values nodes suffixes : ℕ} (words : WordLine) (head : Head) (t : Tree) → IsSized c d.definitions
    → d.counts ≡ c → IsHeadFine c before words head
    → IsTreeHead head 0 → is_linear head ≡ false → next ≤ after → rank head < after → IsTreeReady c d.definitions t → nodes + tree_size t ≤ 2 ^ 22
    → (is_complete d.counts (expression_at n words head [] t) ≡ true → piece_tree d.counts (expression_at n words head [] t) ≡ t → with_piece d (expression_at n words head [] t) ≡ e)
    → IsStanding o c before d next linear values nodes suffixes → Reaches o c before n (words ∷ tree_lines t) e after linear values (nodes + tree_size t) suffixes
tree_reached {n = n} {linear = linear} words head t z counts fine g plain up above r room said s =
    let p = expression_at n words head [] t in
    let no_suffix = g.no_suffix in
    added_reaches p (g.columns p) (expression_added words head [] t z counts fine g
    (record { each = tt; fresh = tt; linear = λ e. absurd cc; values = λ e. absurd cc }) tt up above r room
    (λ e. uncounted is_linear p plain linear) (λ complete pairs is. said complete is) s)

-- ---- the body of a constraint

-- the draft with this body
abbrev pub with_body : Draft → ℕ → Tree → Draft
with_body d i t = record d { bodies = slice_set d.bodies i (Some t) }

pub body_reached : {o : List ℤ} {c : Counts} {before : List Piece} {d : Draft} {n i linear values nodes suffixes : ℕ} (t : Tree) → IsSized c d.definitions → i < c.n_con → d.counts ≡ c
    → IsTreeReady c d.definitions t → nodes + tree_size t ≤ 2 ^ 22 → IsStanding o c before d (rank (Body i)) linear values nodes suffixes
    → Reaches o c before n (body_piece i (Some t)) (with_body d i t) (rank (Body (i + 1))) linear values (nodes + tree_size t) suffixes
unfolding head_of is_in_range
body_reached {c = c} {before = before} {d = d} {i = i} t z lt counts r room s =
    let small : i < 2 ^ 31 = omega (arith, lt, z.counts.constraints) in
    let fine = number_head 67 i (Body i) (omega arith) small (refl, refl, refl) (rw (whole_of-decimal i small) refl) s.done (rw (lt-ltb i c.n_con lt, not_repeated before (Body i) [] s.ranks) refl) in
    tree_reached (lettered (codes "C") i ∷ []) (Body i) t z counts fine (record { tree = refl; kind = refl; size = refl; no_suffix = refl; columns = λ p. refl }) refl
    (omega arith) (omega arith) r room (λ complete is. said_whole d _ _ complete ∙ ap (with_body d i) is) s

-- ---- an objective

read_zero : whole_of (codes "0") ≡ Some 0
unfolding whole_of
read_zero = refl

read_one : whole_of (codes "1") ≡ Some 1
unfolding whole_of
read_one = refl

sense_kept : (maximise : Bool) → IsKeptWord (sense_word maximise)
sense_kept true = plain-word (codes "1") (omega arith) (omega arith, tt)
sense_kept false = plain-word (codes "0") (omega arith) (omega arith, tt)

sense_read : (c : Counts) (k : ℕ) (maximise : Bool) → k < 2 ^ 31 → head_of c (lettered (codes "O") k ∷ sense_word maximise ∷ []) ≡ Some (ObjectiveHead k maximise)
unfolding head_of
sense_read c k true small = rw (whole_of-decimal k small, read_one) refl
sense_read c k false small = rw (whole_of-decimal k small, read_zero) refl

objective_head : (c : Counts) (before : List Piece) (k : ℕ) (maximise : Bool) → c.n_obj ≤ 256 → k < c.n_obj
    → awaited_of c before ≡ Nothing → AllByRecursion (λ p. rank p.head < rank (ObjectiveHead k maximise)) before
    → IsHeadFine c before (lettered (codes "O") k ∷ sense_word maximise ∷ []) (ObjectiveHead k maximise)
unfolding is_in_range
objective_head c before k maximise most lt done ranks =
    let small : k < 2 ^ 31 = omega arith in
    record {
      written = written-two (lettered (codes "O") k) (sense_word maximise) (word-lettered 79 k (omega arith) (lt_trans small (lit< tt))) (sense_kept maximise);
      form = (refl, refl, refl);
      read = sense_read c k maximise small;
      done = done;
      fine = rw (lt-ltb k c.n_obj lt, not_repeated before (ObjectiveHead k maximise) [] ranks) refl;
    }

-- the draft with this objective
abbrev pub with_objective : Draft → ℕ → Bool → Tree → Draft
with_objective d k maximise t = record d { objectives = slice_set d.objectives k (Some (record { maximise = maximise; tree = t })) }

pub objective_reached : {o : List ℤ} {c : Counts} {before : List Piece} {d : Draft}
    {n k linear values nodes suffixes : ℕ} (maximise : Bool) (t : Tree) → IsSized c d.definitions → k < c.n_obj
    → d.counts ≡ c
    → IsTreeReady c d.definitions t → nodes + tree_size t ≤ 2 ^ 22 → IsStanding o c before d (rank (ObjectiveHead k maximise)) linear values nodes suffixes
    → Reaches o c before n (objective_piece k (record { maximise = maximise; tree = t }))
    (with_objective d k maximise t) (rank (ObjectiveHead (k + 1) maximise)) linear values (nodes + tree_size t)
    suffixes
objective_reached {c = c} {before = before} {d = d} {k = k} maximise t z lt counts r room s =
    tree_reached (lettered (codes "O") k ∷ sense_word maximise ∷ []) (ObjectiveHead k maximise) t z counts (objective_head c before k maximise z.counts.objectives lt s.done s.ranks)
    (record { tree = refl; kind = refl; size = refl; no_suffix = refl; columns = λ p. refl }) refl (omega arith)
    (omega arith) r room (λ complete is. said_whole d _ _ complete ∙ ap (with_objective d k maximise) is) s

-- ---- all bodies, and all objectives

abbrev pub body_size : Option Tree → ℕ
body_size b = option_map_or tree_size b 0

pub bodies_reached : {o : List ℤ} {c : Counts} {before : List Piece} {d : Draft} {n linear values nodes suffixes : ℕ}
    (bodies : List (Option Tree)) → IsSized c d.definitions → d.counts ≡ c → length bodies ≡ c.n_con
    → ((i : ℕ) (t : Tree) → slice_get bodies i ≡ Some (Some t) → IsTreeReady c d.definitions t) → linear ≤ most_terms → nodes + sum_by body_size bodies ≤ 2 ^ 22
    → d.bodies ≡ replicate (length bodies) None → IsStanding o c before d (rank (Body 0)) linear values nodes suffixes
    → Reaches o c before n (by_number body_piece 0 bodies) (record d { bodies = bodies }) (rank (Body (length bodies))) linear values (nodes + sum_by body_size bodies) suffixes
bodies_reached {o = o} {c = c} {d = d} {values = values} {suffixes = suffixes} bodies z counts size ready few room empty s =
    let D : ℕ → Draft = λ i. record d { bodies = filled bodies None i } in
    let start : d ≡ D 0 = λ j. record d { bodies = (empty ∙ sym (filled-none bodies None)) j } in
    same_reach (steps_reached body_piece D (λ i. rank (Body i)) (λ b. 0) body_size bodies step [] bodies 0 refl refl _ _
    _ _ (omega (arith, few, no_sum bodies)) room (same_standing s start refl refl refl refl))
    (ap (λ bs. record d { bodies = bs }) (filled-all bodies None)) (omega (arith, no_sum bodies)) refl refl refl
  where
    step : (i : ℕ) (x : Option Tree) (before : List Piece) (n linear nodes : ℕ) → slice_get bodies i ≡ Some x → linear + 0 ≤ most_terms → nodes + body_size x ≤ 2 ^ 22
        → IsStanding o c before (record d { bodies = filled bodies None i }) (rank (Body i)) linear values nodes suffixes
        → Reaches o c before n (body_piece i x) (record d { bodies = filled bodies None (i + 1) }) (rank (Body (i + 1))) (linear + 0) values (nodes + body_size x) suffixes
    step i None before n linear nodes at few room s = reaches_none
        (standing_as s (omega arith) (ap (λ bs. record d { bodies = bs }) (filled-same bodies None i at)) (omega arith)
        refl (omega arith) refl)
    step i (Some t) before n linear nodes at few room s =
        same_reach (body_reached t z (omega (arith, slice_get_within bodies i (Some t) at, size)) counts (ready i t at)
        room s) (ap (λ bs. record d { bodies = bs }) (filled-set bodies None (Some t) i at)) (omega arith) refl refl
        refl

abbrev pub objective_size : Objective → ℕ
objective_size x = tree_size x.tree

pub objectives_reached : {o : List ℤ} {c : Counts} {before : List Piece} {d : Draft}
    {n linear values nodes suffixes : ℕ} (objectives : List Objective) → IsSized c d.definitions → d.counts ≡ c
    → length objectives ≡ c.n_obj
    → ((k : ℕ) (x : Objective) → slice_get objectives k ≡ Some x → IsTreeReady c d.definitions x.tree) → linear ≤ most_terms → nodes + sum_by objective_size objectives ≤ 2 ^ 22
    → d.objectives ≡ replicate (length objectives) None → IsStanding o c before d (rank (ObjectiveHead 0 false)) linear values nodes suffixes
    → Reaches o c before n (by_number objective_piece 0 objectives) (record d { objectives = map Some objectives })
    (rank (ObjectiveHead (length objectives) false)) linear values (nodes + sum_by objective_size objectives) suffixes
objectives_reached {o = o} {c = c} {d = d} {values = values} {suffixes = suffixes} objectives z counts size ready few room empty s =
    let places : List (Option Objective) = map Some objectives in
    let many : length places ≡ length objectives = length-map objectives Some in
    let D : ℕ → Draft = λ i. record d { objectives = filled places None i } in
    let start : d ≡ D 0 = λ j. record d { objectives = (empty ∙ ap (λ k. replicate k None) (sym many) ∙ sym (filled-none places None)) j } in
    same_reach (steps_reached objective_piece D (λ i. rank (ObjectiveHead i false)) (λ x. 0) objective_size objectives
    step [] objectives 0 refl refl _ _ _ _ (omega (arith, few, no_sum objectives)) room
    (same_standing s start refl refl refl refl))
    (ap (λ os. record d { objectives = os }) (ap (filled places None) (sym many) ∙ filled-all places None)) (omega (arith, no_sum objectives)) refl refl refl
  where
    step : (i : ℕ) (x : Objective) (before : List Piece) (n linear nodes : ℕ) → slice_get objectives i ≡ Some x → linear + 0 ≤ most_terms → nodes + objective_size x ≤ 2 ^ 22
        → IsStanding o c before (record d { objectives = filled (map Some objectives) None i }) (rank (ObjectiveHead i false)) linear values nodes suffixes
        → Reaches o c before n (objective_piece i x) (record d
        { objectives = filled (map Some objectives) None (i + 1) }) (rank (ObjectiveHead (i + 1) false))
        (linear + 0) values (nodes + objective_size x) suffixes
    step i x before n linear nodes at few room s =
        let place : slice_get (map Some objectives) i ≡ Some (Some x) = slice_get-map Some objectives i ∙ ap (option_map Some) at in
        same_reach (objective_reached x.maximise x.tree z (omega (arith, slice_get_within objectives i x at, size))
        counts (ready i x at) room s) (ap (λ os. record d { objectives = os })
        (filled-set (map Some objectives) None (Some x) i place)) (omega arith) refl refl refl

-- ---- the head of a defined variable

abbrev pub definition_words : Definition → WordLine
definition_words x = lettered (codes "V") x.index ∷ decimal (length x.terms) ∷ decimal x.usage ∷ []

abbrev pub definition_of : Definition → Head
definition_of x = DefinitionHead x.index (length x.terms) x.usage

definition_head : (c : Counts) (before : List Piece) (known : List Definition) (x : Definition) → c.n_var ≤ 2 ^ 20
    → defined_count c ≤ 2 ^ 20 → IsDefinition c.n_var (defined_count c) known x → x.usage < 2 ^ 31
    → awaited_of c before ≡ Nothing → is_repeated before (definition_of x) (decimal x.usage) ≡ false
    → IsHeadFine c before (definition_words x) (definition_of x)
unfolding head_of is_in_range
definition_head c before known x vars defs h usage done new =
    let small : x.index < 2 ^ 31 = omega (arith, h.below) in
    let few : length x.terms < 2 ^ 31 = omega (arith, h.few) in
    record {
      written = written-three (lettered (codes "V") x.index) (decimal (length x.terms)) (decimal x.usage)
          (word-lettered 86 x.index (omega arith) (lt_trans small (lit< tt)))
          (word-decimal (length x.terms) (lt_trans few (lit< tt)))
          (word-decimal x.usage (lt_trans usage (lit< tt)));
      form = (refl, refl, refl);
      read = rw (whole_of-decimal x.index small, whole_of-decimal (length x.terms) few, whole_of-decimal x.usage usage) refl;
      done = done;
      fine = rw (le-leb c.n_var x.index h.from, lt-ltb x.index (c.n_var + defined_count c) h.below, new) refl;
    }

abbrev pub definition_at : ℕ → Definition → Piece
definition_at n x = expression_at n (definition_words x) (definition_of x) x.terms x.tree

-- ---- one more defined variable

-- indices below a limit, one by one
pub all_below : (n : ℕ) (terms : List Term) → AreTermsBelow n terms → AllByRecursion (IsTermBelow n) terms
all_below n terms h = recursion_from_All (IsTermBelow n) terms (λ i t lt. record { below = h i t lt })

-- what is asked of a definition besides the rules of values
pub record IsPlainDefinition (x : Definition) : Type 0 where
  pub usage : x.usage < 2 ^ 31
  pub nodes : HasNodes x.tree

-- the draft with a definition more
abbrev pub with_definition : Draft → Definition → Draft
with_definition d x = record d { definitions = d.definitions ++ x ∷ [] }

definition_more : (o : List ℤ) (c : Counts) (before : List Piece) (d : Draft) (n linear values nodes suffixes : ℕ)
    (x : Definition) → IsSized c d.definitions → d.counts ≡ c
    → is_repeated before (definition_of x) (decimal x.usage) ≡ false
    → IsDefinition c.n_var (defined_count c) d.definitions x → IsPlainDefinition x
    → linear + length x.terms ≤ most_terms → nodes + tree_size x.tree ≤ 2 ^ 22
    → IsStanding o c before d (rank (Body 0)) linear values nodes suffixes
    → Adds o c before n (definition_piece x) (definition_at n x) (with_definition d x) (rank (Body 0)) (linear + length x.terms) values (nodes + tree_size x.tree) suffixes
definition_more o c before d n linear values nodes suffixes x z counts new r plain terms_room nodes_room s =
    let words = definition_words x in
    let head = definition_of x in
    let low = all_below c.n_var x.terms r.terms in
    let may : MayTake c before (begun_piece n words head) x.terms = record {
      each = terms_fine c head c.n_var x.terms refl refl z.counts.variables low;
      fresh = fresh_none (piece_pairs (begun_piece n words head)) x.terms;
      linear = λ e. omega (arith, s.terms_are, terms_room, no_more n words head);
      values = λ e. absurd cc;
    } in
    expression_added words head x.terms x.tree z counts (definition_head c before d.definitions x z.counts.variables
    z.counts.defined r plain.usage s.done new) (record {
      tree = refl;
      kind = refl;
      size = refl;
      no_suffix = refl;
      columns = λ p. refl;
    }) may
    (each_small c.n_var x.terms z.counts.variables low) (omega arith)
    (omega (arith, r.below, z.counts.variables, z.counts.defined)) (record { nodes = plain.nodes; known = r.tree })
    nodes_room (λ e. ap (λ k. linear + k) e)
    (λ complete pairs is. said_whole d _ (definition_at n x) complete ∙ ap₂ (λ ts t. with_definition d (record { index = x.index; terms = ts; usage = x.usage; tree = t })) pairs is) s

-- ---- all defined variables

repeated_more : (before : List Piece) (n i j usage : ℕ) (name : List ℕ) (known : List Definition) (x : Definition) → is_repeated before (DefinitionHead i j usage) name ≡ is_defined known i
    → is_repeated (before ++ definition_at n x ∷ []) (DefinitionHead i j usage) name ≡ is_defined (known ++ x ∷ []) i
repeated_more before n i j usage name known x e =
    list_any-append (is_same_piece (DefinitionHead i j usage) name) before (definition_at n x ∷ [])
    ∙ ap₂ (λ a b. a || b) e (turned i x.index)
    ∙ sym (list_any-append (λ d. d.index == i) known (x ∷ []))
  where
    turned : (a b : ℕ) → (((a == b) && true) || false) ≡ ((b == a) || false)
    turned a b = grind (arith, nat_tests)

pub range_more : (n k : ℕ) (known : List Definition) (x : Definition) → AreInRange n k known → n ≤ x.index → x.index < n + k → AreInRange n k (known ++ x ∷ [])
range_more n k known x range from below = all_append (λ d. (n ≤ d.index) × (d.index < n + k)) known (x ∷ []) range ((from, below), tt)

pub definitions_reached : {o : List ℤ} {c : Counts} {before : List Piece} {d : Draft}
    {n linear values nodes suffixes : ℕ} (known xs : List Definition) → IsSized c known → d.counts ≡ c
    → d.definitions ≡ known
    → ((i j usage : ℕ) (name : List ℕ) → is_repeated before (DefinitionHead i j usage) name ≡ is_defined known i)
    → AreDefinitions c.n_var (defined_count c) known xs → AllByRecursion IsPlainDefinition xs
    → linear + sum_by (λ x. length x.terms) xs ≤ most_terms → nodes + sum_by (λ x. tree_size x.tree) xs ≤ 2 ^ 22 → IsStanding o c before d (rank (Body 0)) linear values nodes suffixes
    → Reaches o c before n (flat_map definition_piece xs) (record d { definitions = known ++ xs }) (rank (Body 0))
    (linear + sum_by (λ x. length x.terms) xs) values (nodes + sum_by (λ x. tree_size x.tree) xs) suffixes
definitions_reached {d = d} known [] z counts are rep ready plain terms_room nodes_room s =
    reaches_none (same_standing s (λ j. record d { definitions = (are ∙ sym (append-nil known)) j }) (omega arith) refl (omega arith) refl)
definitions_reached {o = o} {c = c} {before = before} {d = d} {n = n} {linear = linear} {values = values}
    {nodes = nodes} {suffixes = suffixes} known (x ∷ xs) z counts are rep ready plain terms_room nodes_room s =
    let p = definition_at n x in
    let next : List Definition = known ++ x ∷ [] in
    let terms_sum = sum_by-cons (λ (x : Definition). length x.terms) x xs in
    let nodes_sum = sum_by-cons (λ (x : Definition). tree_size x.tree) x xs in
    let here : IsDefinition c.n_var (defined_count c) d.definitions x = subst (λ ds. IsDefinition c.n_var (defined_count c) ds x) (sym are) ready.0 in
    let sized : IsSized c d.definitions = subst (IsSized c) (sym are) z in
    let new : is_repeated before (definition_of x) (decimal x.usage) ≡ false = rep x.index (length x.terms) x.usage (decimal x.usage) ∙ ready.0.fresh in
    let one = definition_more o c before d n linear values nodes suffixes x sized counts new here plain.0 (omega (arith, terms_room, terms_sum)) (omega (arith, nodes_room, nodes_sum)) s in
    let z2 : IsSized c next = record { counts = z.counts; range = range_more c.n_var (defined_count c) known x z.range ready.0.from ready.0.below } in
    let more = definitions_reached {before = before ++ p ∷ []} {n = n + length (definition_piece x)} next xs z2 counts (ap (λ ds. ds ++ x ∷ []) are)
    (λ i j usage name. repeated_more before n i j usage name known x (rep i j usage name)) ready.1 plain.1 (omega (arith, terms_room, terms_sum)) (omega (arith, nodes_room, nodes_sum)) one.stands in
    same_reach (added_then p refl one more) (ap (λ ds. record d { definitions = ds }) (append_assoc known (x ∷ []) xs)) (omega (arith, terms_sum)) refl (omega (arith, nodes_sum)) refl
