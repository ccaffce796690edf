-- Each node, term and head has its line in what pieces say.
use Rattle.std.proofs.Common.{◌≡◌, ◌∙◌, ℕ, zero, suc, ◌<◌, ◌≤◌, Bool, true, false, not, ◌&&◌, ◌||◌, ◌==◌, List, [], ◌∷◌}
use Rattle.std.proofs.Common.{◌++◌, length, take, replicate, get_or, refl, sym, ap, subst, arith, nat_lt, Option, Some}
use Rattle.std.proofs.Common.{None, is_some, append_assoc, drop, map}
use Rattle.std.specs.Prelude.{if◌then◌else◌, ℤ, IfSome, IsSome, IsSomeAnd, slice_get, option_map, option_and_then, All, AllPairs}
use Rattle.std.specs.Option.{option_map_or, option_or}
use Rattle.std.specs.List.{list_any, cons_option}
use Rattle.std.proofs.lemmas.List.{length-map, length-replicate, append-nil}
use Rattle.std.proofs.lemmas.Bool.{ltb-true, ltb-false, cond_both, both_ways, and_right}
use Rattle.nl_model.specs.Trees.{Tree, tree_size}
use Rattle.nl_model.specs.declared.header_counts.Counts.{Counts}
use Rattle.nl_model.specs.Draft.{Draft, file_of, those_given}
use Rattle.nl_model.specs.File.{Term}
use Rattle.nl_model.specs.declared.definition.Def.{Def as Definition}
use Rattle.nl_model.specs.declared.objective.Objective.{Objective}
use Rattle.nl_model.specs.Nodes.{tree_of}
use Rattle.nl_lines.specs.declared.awaited.Awaited.{Awaited}
use Rattle.nl_lines.specs.declared.awaited.Awaited.TheVariants.{Nothing}
use Rattle.nl_lines.specs.declared.head.Head.{Head}
use Rattle.nl_lines.specs.declared.head.Head.TheVariants.{Body as BodyHead, Objective as ObjectiveHead, Definition as DefinitionHead, Terms, Slopes, Suffix}
use Rattle.nl_lines.specs.declared.pending.Pending.{Pending}
use Rattle.nl_model.specs.declared.node.Node.{Node}
use Rattle.nl_lines.specs.Rows.{NumberedRow, row_words}
use Rattle.nl_lines.specs.Heads.{is_in_range}
use Rattle.nl_lines.specs.Nodes.{Placed, node_in, opcode_in, pending_in, nodes_from, only_nodes}
use Rattle.nl_lines.specs.Pieces.{Piece, awaited_in, has_tree, is_complete, is_nothing, line_count, line_kind, pair_count, piece_nodes, piece_pairs, piece_pending, tree_awaits, tree_rows}
use Rattle.nl_lines.specs.Saying.{OwnerLines, PlaceLines, no_lines, said_by, draft_of, place_lines, more_lines, place_line, piece_tree, node_lines, term_lines, with_tree_lines, with_term_lines}
use Rattle.nl_model.specs.declared.at.At.{At}
use Rattle.nl_model.specs.FilePlaces.{HasPlace}
use Rattle.nl_model.specs.declared.at.At.TheVariants.{Node as NodeAt, Term as TermAt, Head as HeadAt}
use Rattle.nl_model.specs.declared.at.Owner.TheVariants.{Def, Con, Obj}
use Rattle.nl_lines.specs.Tests.{is_same_piece}
use Rattle.nl_segments.specs.Held.{AreSound, IsSoundPiece}
use Rattle.nl_lines.proofs.PieceLemmas.{draft-append, lines-append}
use Rattle.nl_lines.proofs.DraftLemmas.{draft_counts}
use Rattle.nl_segments.specs.InsidePlaceSteps.{HasOwner}
use Rattle.nl_segments.proofs.HeadBegun.{some_line, always}
use Rattle.nl_segments.proofs.PairLines.{owner_there, Apart, front_apart}
use Rattle.nl_lines.proofs.FreshLaw.{none_before, gave_none}
use Rattle.std.proofs.lemmas.List.{get_or_past}
use Rattle.std.proofs.lemmas.List.Elements.{All-cons, All-drop, All-map, All-take}
use Rattle.std.proofs.lemmas.Option.{slice_get_past, slice_get-get_or}
use Rattle.nl_lines.proofs.LineLaw.{AreLines, IsLined, AllLined, AreDefs, tree_nodes, with_tree_at, with_row_at, defs_push, node_there, term_there}

-- ---- one piece

placed_nodes : (ns : List Placed) (q : Option Pending) → is_nothing (tree_awaits ns q) ≡ true → tree_size (tree_of (only_nodes ns)) ≤ length (map (λ n. n.line) ns)
placed_nodes [] None e = absurd cc
placed_nodes [] (Some p) e = absurd cc
placed_nodes (x ∷ xs) q e =
    let size = tree_nodes x.node (only_nodes xs) in
    omega (arith, size, length-map xs (λ (p : Placed). p.node), length-map xs (λ (p : Placed). p.line))

pub tree_part : (t : Bool) (a : Awaited) → t ≡ true → is_nothing (if t then a else Nothing) ≡ true → is_nothing a ≡ true
tree_part true a e h = h
tree_part false a e h = absurd cc

-- a whole expression awaits nothing
pub tree_done : (c : Counts) (p : Piece) → has_tree p.head ≡ true → is_complete c p ≡ true → is_nothing (tree_awaits (piece_nodes c p) (piece_pending p)) ≡ true
unfolding awaited_in
tree_done c p t whole =
    cond_both (nat_lt (length p.rows) (line_count c p.head)) (line_kind p.head) (if has_tree p.head then tree_awaits (piece_nodes c p) (piece_pending p) else Nothing)
    (λ a. is_nothing a ≡ true → is_nothing (tree_awaits (piece_nodes c p) (piece_pending p)) ≡ true)
    (λ q e. absurd (both_ways _ (some_line p.head) e)) (λ q e. tree_part (has_tree p.head) (tree_awaits (piece_nodes c p) (piece_pending p)) t e) whole

-- its lines, and those of its nodes and terms, are such ones
record ArePieceLines (P : ℕ → Type 0) (c : Counts) (p : Piece) : Type 0 where
  line : P p.line
  nodes : All P (node_lines c p)
  terms : All P (term_lines p)

record IsWhole (P : ℕ → Type 0) (c : Counts) (p : Piece) : Type 0 where
  range : is_in_range c p.head ≡ true
  whole : is_complete c p ≡ true
  pairs : length (piece_pairs p) ≡ length (take (pair_count p.head) p.rows)
  lines : ArePieceLines P c p

pairs_lines : (P : ℕ → Type 0) (c : Counts) (p : Piece) → IsWhole P c p → length (piece_pairs p) ≤ length (term_lines p)
pairs_lines P c p w = omega (arith, w.pairs, length-map (take (pair_count p.head) p.rows) (λ r. r.line))

-- ---- lines of rows

-- the lines of its head and of its rows are such ones
pub record AreRowLines (P : ℕ → Type 0) (p : Piece) : Type 0 where
  pub line : P p.line
  pub rows : All (λ r. P r.line) p.rows

lines_from : (P : ℕ → Type 0) (n : ℕ) (pending : Option Pending) (rows : List NumberedRow)
    → IfSome pending (λ q. P q.line) → All (λ r. P r.line) rows → All P (map (λ n. n.line) (nodes_from n pending rows))
unfolding nodes_from
lines_from P n None [] h rows = λ k d lt. absurd (omega (arith, lt))
lines_from P n (Some q) [] h rows = λ k d lt. absurd (omega (arith, lt))
lines_from P n (Some q) (row ∷ more) h rows = All-cons P q.line (map (λ n. n.line) (nodes_from n None more)) h (lines_from P n None more tt (λ k d lt. rows (suc k) d (omega (arith, lt))))
lines_from P n None (row ∷ more) h rows =
    by (node_in n (row_words row)) (lines_from P n (pending_in row) more (next (opcode_in (row_words row))) (λ k d lt. rows (suc k) d (omega (arith, lt))))
  where
    here : P row.line
    here = rows 0 row (omega arith)

    next : (o : Option ℕ) → IfSome (option_map (λ o. record { opcode = o; line = row.line }) o) (λ (q : Pending). P q.line)
    next None = tt
    next (Some o) = here

    by : (o : Option Node) → All P (map (λ n. n.line) (nodes_from n (pending_in row) more))
        → All P (map (λ n. n.line) (cons_option (option_map (λ (m : Node). record { node = m; line = row.line }) o)
        (nodes_from n (pending_in row) more)))
    by None rest = rest
    by (Some m) rest = All-cons P row.line (map (λ n. n.line) (nodes_from n (pending_in row) more)) here rest

tree_lines : (P : ℕ → Type 0) (p : Piece) → All (λ r. P r.line) p.rows → All (λ r. P r.line) (tree_rows p)
tree_lines P p h =
    cond_both (has_tree p.head) (drop (pair_count p.head) p.rows) [] (All (λ r. P r.line)) (λ e. All-drop (λ r. P r.line) (pair_count p.head) p.rows h) (λ e k d lt. absurd (omega (arith, lt)))

piece_lines : (P : ℕ → Type 0) (c : Counts) (p : Piece) → AreRowLines P p → ArePieceLines P c p
piece_lines P c p h =
    record {
      line = h.line;
      nodes = lines_from P c.n_var None (tree_rows p) tt (tree_lines P p h.rows);
      terms = All-map P (λ r. r.line) (take (pair_count p.head) p.rows) (All-take (λ r. P r.line) (pair_count p.head) p.rows h.rows);
    }

-- ---- the piece after the others

record AreLined (P : ℕ → Type 0) (d : Draft) (l : PlaceLines) : Type 0 where
  definitions : AreDefs P d.definitions l.definitions
  constraints : AllLined P true (λ (t : Option Tree). t) d.bodies d.terms l.constraints
  objectives : AllLined P false (option_map (λ (o : Objective). o.tree)) d.objectives d.slopes l.objectives

-- no terms were those_given for its index
abbrev IsUnused : Draft → Head → Type 0
IsUnused d (Terms i n) = get_or d.terms i [] ≡ []
IsUnused d (Slopes k n) = get_or d.slopes k [] ≡ []
IsUnused d head = Unit {0}

some_head : (head : Option ℕ) (line : ℕ) → IsSome (option_or head (Some line))
some_head None line = refl
some_head (Some n) line = refl

or_line : (P : ℕ → Type 0) (head : Option ℕ) (line : ℕ) → IfSome head P → P line → IfSome (option_or head (Some line)) P
or_line P None line h l = l
or_line P (Some n) line h l = h

some_and : (P : ℕ → Type 0) (head : Option ℕ) → IsSome head → IfSome head P → IsSomeAnd head P
some_and P None some h = absurd cc
some_and P (Some n) some h = h

step : (P : ℕ → Type 0) (c : Counts) (d : Draft) (l : PlaceLines) (p : Piece) (h : Head) → d.counts ≡ c → p.head ≡ h
    → IsWhole P c p → IsUnused d h → HasOwner l h → AreLined P d l → AreLined P (said_by d p h) (more_lines c l p h)
step P c d l p (BodyHead i) n e w free place old =
    let size = placed_nodes (piece_nodes c p) (piece_pending p) (tree_done c p (rw e refl) w.whole) in
    rw (n, w.whole) (record {
      definitions = old.definitions;
      constraints = with_tree_at P true (λ t. t) d.bodies d.terms l.constraints i (Some (piece_tree c p))
          (with_tree_lines c p) place (λ ts o before. record {
            nodes = size;
            terms = before.terms;
            head = λ _. refl;
            lines = record { head = w.lines.line; nodes = w.lines.nodes; terms = before.lines.terms };
          })
          old.constraints;
      objectives = old.objectives;
    })
step P c d l p (ObjectiveHead k m) n e w free place old =
    let size = placed_nodes (piece_nodes c p) (piece_pending p) (tree_done c p (rw e refl) w.whole) in
    rw (n, w.whole) (record {
      definitions = old.definitions;
      constraints = old.constraints;
      objectives = with_tree_at P false (option_map (λ (o : Objective). o.tree)) d.objectives d.slopes l.objectives k
          (Some (record { maximise = m; tree = piece_tree c p })) (with_tree_lines c p) place
          (λ ts o before. record { nodes = size; terms = before.terms; head = λ _. refl; lines = record { head = w.lines.line; nodes = w.lines.nodes; terms = before.lines.terms } }) old.objectives;
    })
step P c d l p (DefinitionHead i j u) n e w free place old =
    let size = placed_nodes (piece_nodes c p) (piece_pending p) (tree_done c p (rw e refl) w.whole) in
    rw (n, w.whole) (record {
      definitions = defs_push P d.definitions l.definitions
          (record { index = i; terms = piece_pairs p; usage = u; tree = piece_tree c p })
          (record { head = Some p.line; nodes = node_lines c p; terms = term_lines p }) old.definitions
          (record { nodes = size; terms = pairs_lines P c p w; head = λ _. refl; lines = record { head = w.lines.line; nodes = w.lines.nodes; terms = w.lines.terms } });
      constraints = old.constraints;
      objectives = old.objectives;
    })
step P c d l p (Terms i m) n e w free place old =
    record {
      definitions = old.definitions;
      constraints = with_row_at P true (λ t. t) d.bodies d.terms l.constraints i (get_or d.terms i [] ++ piece_pairs p) (with_term_lines p) place
          (λ t o before. record {
            nodes = before.nodes;
            terms = rw free (pairs_lines P c p w);
            head =
                λ _. some_head o.head p.line;
            lines = record {
              head = or_line P o.head p.line before.lines.head w.lines.line;
              nodes = before.lines.nodes;
              terms =
                  w.lines.terms;
            };
          }) old.constraints;
      objectives = old.objectives;
    }
step P c d l p (Slopes k m) n e w free place old =
    record {
      definitions = old.definitions;
      constraints = old.constraints;
      objectives = with_row_at P false (option_map (λ (o : Objective). o.tree)) d.objectives d.slopes l.objectives k
          (get_or d.slopes k [] ++ piece_pairs p) (λ o. record o { terms = term_lines p }) place
          (λ t o before. record {
            nodes = before.nodes;
            terms = rw free (pairs_lines P c p w);
            head = before.head;
            lines = record { head = before.lines.head; nodes = before.lines.nodes; terms = w.lines.terms };
          })
          old.objectives;
    }
step P c d l p (Suffix a m) n e w free place old = rw (n, w.whole) (record { definitions = old.definitions; constraints = old.constraints; objectives = old.objectives })
step P c d l p head n e w free place old = record { definitions = old.definitions; constraints = old.constraints; objectives = old.objectives }

-- ---- all pieces

-- no head of the rest came before it
abbrev Follow : List Piece → List Piece → Type 0
Follow before [] = Unit {0}
Follow before (p ∷ rest) = (list_any (is_same_piece p.head p.name) before ≡ false) × Follow (before ++ p ∷ []) rest

follow : (before rest : List Piece) → AllPairs Apart (before ++ rest) → Follow before rest
follow before [] h = tt
follow before (p ∷ rest) h =
    let longer : AllPairs Apart ((before ++ p ∷ []) ++ rest) = subst (AllPairs Apart) (sym (append_assoc before (p ∷ []) rest)) h in
    (none_before before p (front_apart (before ++ p ∷ []) rest longer), follow (before ++ p ∷ []) rest longer)

abbrev AllWhole : (ℕ → Type 0) → Counts → List Piece → Type 0
AllWhole P c [] = Unit {0}
AllWhole P c (p ∷ ps) = IsWhole P c p × AllWhole P c ps

all_whole : (P : ℕ → Type 0) (c : Counts) (ps : List Piece) → All (IsSoundPiece c) ps → All (λ q. is_complete c q ≡ true) ps → All (AreRowLines P) ps → AllWhole P c ps
all_whole P c [] s w r = tt
all_whole P c (p ∷ ps) s w r =
    let sound : IsSoundPiece c p = s 0 p (omega arith) in (
      record { range = sound.range; whole = w 0 p (omega arith); pairs = sound.pairs; lines = piece_lines P c p (r 0 p (omega arith)) },
      all_whole P c ps (λ k d lt. s (suc k) d (omega (arith, lt))) (λ k d lt. w (suc k) d (omega (arith, lt))) (λ k d lt. r (suc k) d (omega (arith, lt))),
    )

unused : (o : List ℤ) (c : Counts) (before : List Piece) (name : List ℕ) (h : Head) → list_any (is_same_piece h name) before ≡ false → IsUnused (draft_of o c before) h
unused o c before name (Terms i n) e = gave_none o c before (Terms i n) name refl e
unused o c before name (Slopes k n) e = gave_none o c before (Slopes k n) name refl e
unused o c before name head e = tt

abbrev Lined : (ℕ → Type 0) → List ℤ → Counts → List Piece → Type 0
Lined P o c ps = AreLined P (draft_of o c ps) (place_lines c ps)

lined : (P : ℕ → Type 0) (o : List ℤ) (c : Counts) (before rest : List Piece) → Lined P o c before → Follow before rest → AllWhole P c rest → Lined P o c (before ++ rest)
lined P o c before [] h a w = subst (Lined P o c) (sym (append-nil before)) h
lined P o c before (p ∷ rest) h a w =
    let next : Lined P o c (before ++ p ∷ []) =
    rw (draft-append o c before p, lines-append c before p)
    (step P c (draft_of o c before) (place_lines c before) p p.head (draft_counts o c before) refl w.0 (unused o c before p.name p.head a.0) (owner_there c before p.head w.0.range) h) in
    subst (Lined P o c) (append_assoc before (p ∷ []) rest) (lined P o c (before ++ p ∷ []) rest next a.1 w.1)

none_lined : {A : Type 0} (P : ℕ → Type 0) (both : Bool) (tree : Option A → Option Tree) (n : ℕ) → tree None ≡ None → AllLined P both tree (replicate n None) (replicate n []) (replicate n no_lines)
none_lined {A = A} P both tree n e =
    record {
      trees = length-replicate n None ∙ sym (length-replicate n no_lines);
      rows_count = length-replicate n [] ∙ sym (length-replicate n no_lines);
      each = λ j. rw (always {A = Option A} n j None, always {A = List Term} n j [], always n j no_lines, e) (nothing both);
    }
  where
    no_line : AreLines P no_lines
    no_line = record { head = tt; nodes = λ k d lt. absurd (omega (arith, lt)); terms = λ k d lt. absurd (omega (arith, lt)) }

    nothing : (both : Bool) → IsLined P both None [] no_lines
    nothing both = record { nodes = omega arith; terms = omega arith; head = λ e. absurd (both_ways _ (and_right both false refl) e); lines = no_line }

none_yet : (P : ℕ → Type 0) (o : List ℤ) (c : Counts) → Lined P o c []
unfolding draft_of place_lines
none_yet P o c = record { definitions = tt; constraints = none_lined P true (λ t. t) c.n_con refl; objectives = none_lined P false (option_map (λ (o : Objective). o.tree)) c.n_obj refl }

-- ---- the places of a file

record HasAll (P : ℕ → Type 0) (both : Bool) (tree : Option Tree) (ts : List Term) (o : Option OwnerLines) : Type 0 where
  nodes : (k : ℕ) → k < option_map_or tree_size tree 0 → IsSomeAnd (option_and_then (λ (x : OwnerLines). slice_get x.nodes k) o) P
  terms : (k : ℕ) → k < length ts → IsSomeAnd (option_and_then (λ (x : OwnerLines). slice_get x.terms k) o) P
  head : (is_some tree || (both && not (length ts == 0))) ≡ true → IsSomeAnd (option_and_then (λ (x : OwnerLines). x.head) o) P

owned : (P : ℕ → Type 0) (both : Bool) (tree : Option Tree) (ts : List Term) (o : OwnerLines) → IsLined P both tree ts o → HasAll P both tree ts (Some o)
owned P both tree ts o h = record { nodes = λ k lt. node_there P both tree ts o k h lt; terms = λ k lt. term_there P both tree ts o k h lt; head = λ e. some_and P o.head (h.head e) h.lines.head }

no_owner : (P : ℕ → Type 0) (both : Bool) → HasAll P both None [] None
no_owner P both = record { nodes = λ k lt. absurd (omega (arith, lt)); terms = λ k lt. absurd (omega (arith, lt)); head = λ e. absurd (both_ways _ (and_right both false refl) e) }

owner_at : {A : Type 0} (P : ℕ → Type 0) (both : Bool) (tree : Option A → Option Tree) (xs : List (Option A))
    (rows : List (List Term)) (os : List OwnerLines) (i : ℕ) → tree None ≡ None → AllLined P both tree xs rows os
    → HasAll P both (tree (get_or xs i None)) (get_or rows i []) (slice_get os i)
owner_at P both tree xs rows os i e h = by (nat_lt i (length os)) refl
  where
    by : (t : Bool) → nat_lt i (length os) ≡ t → HasAll P both (tree (get_or xs i None)) (get_or rows i []) (slice_get os i)
    by true q = rw (slice_get-get_or os i no_lines (ltb-true i (length os) q)) (owned P both _ _ _ (h.each i))
    by false q =
        let past : length os ≤ i = ltb-false i (length os) q in
        rw (slice_get_past os i past, get_or_past xs i None (omega (arith, h.trees)), get_or_past rows i [] (omega (arith, h.rows_count)), e) (no_owner P both)

def_at : (P : ℕ → Type 0) (ds : List Definition) (os : List OwnerLines) (i : ℕ) → AreDefs P ds os
    → HasAll P true (option_map (λ (d : Definition). d.tree) (slice_get ds i)) (option_map_or (λ (d : Definition). d.terms) (slice_get ds i) []) (slice_get os i)
def_at P [] [] i h = no_owner P true
def_at P [] (o ∷ os) i h = absurd h
def_at P (d ∷ ds) [] i h = absurd h
def_at P (d ∷ ds) (o ∷ os) zero h = owned P true (Some d.tree) d.terms o h.0
def_at P (d ∷ ds) (o ∷ os) (suc i) h = def_at P ds os i h.1

pub body_in : (xs : List (Option Tree)) (i : ℕ) → option_and_then (λ t. t) (slice_get xs i) ≡ get_or xs i None
body_in [] i = refl
body_in (x ∷ xs) zero = refl
body_in (x ∷ xs) (suc i) = body_in xs i

pub given_in : (os : List (Option Objective)) (k : ℕ) → All IsSome os → slice_get (those_given os) k ≡ get_or os k None
given_in [] k h = refl
given_in (None ∷ os) k h = absurd (let wrong = h 0 None (omega arith) in cc)
given_in (Some o ∷ os) zero h = refl
given_in (Some o ∷ os) (suc k) h = given_in os k (λ i d lt. h (suc i) d (omega (arith, lt)))

some_tree : (o : Option Objective) → IsSome o → is_some (option_map (λ (o : Objective). o.tree) o) ≡ true
some_tree None h = absurd cc
some_tree (Some o) h = refl

objective_head : (P : ℕ → Type 0) (xs : List (Option Objective)) (rows : List (List Term)) (os : List OwnerLines)
    (i : ℕ) → AllLined P false (option_map (λ (o : Objective). o.tree)) xs rows os → All IsSome xs
    → (is_some (option_map (λ (o : Objective). o.tree) (get_or xs i None)) || not (length (get_or rows i []) == 0)) ≡ true → IsSomeAnd (option_and_then (λ (x : OwnerLines). x.head) (slice_get os i)) P
objective_head P xs rows os i h g has = by (nat_lt i (length xs)) refl
  where
    by : (t : Bool) → nat_lt i (length xs) ≡ t → IsSomeAnd (option_and_then (λ (x : OwnerLines). x.head) (slice_get os i)) P
    by true q =
        (owner_at P false (option_map (λ (o : Objective). o.tree)) xs rows os i refl h).head
        (ap (λ b. b || false) (some_tree (get_or xs i None) (g i None (ltb-true i (length xs) q))))
    by false q =
        let past : length xs ≤ i = ltb-false i (length xs) q in
        absurd (let wrong : false ≡ true = rw (get_or_past xs i None past, get_or_past rows i [] (omega (arith, h.trees, h.rows_count))) at has in cc)

places_there : (P : ℕ → Type 0) (d : Draft) (l : PlaceLines) → AreLined P d l → All IsSome d.objectives → (at : At) → HasPlace (file_of d) at → IsSomeAnd (place_line l at) P
unfolding place_line
places_there P d l h g (NodeAt (Def i) k) has = (def_at P d.definitions l.definitions i h.definitions).nodes k has
places_there P d l h g (NodeAt (Con i) k) has = (owner_at P true (λ t. t) d.bodies d.terms l.constraints i refl h.constraints).nodes k (rw (body_in d.bodies i) at has)
places_there P d l h g (NodeAt (Obj i) k) has = (owner_at P false (option_map (λ (o : Objective). o.tree)) d.objectives
    d.slopes l.objectives i refl h.objectives).nodes k (rw (given_in d.objectives i g) at has)
places_there P d l h g (TermAt (Def i) k) has = (def_at P d.definitions l.definitions i h.definitions).terms k has
places_there P d l h g (TermAt (Con i) k) has = (owner_at P true (λ t. t) d.bodies d.terms l.constraints i refl h.constraints).terms k has
places_there P d l h g (TermAt (Obj i) k) has = (owner_at P false (option_map (λ (o : Objective). o.tree)) d.objectives d.slopes l.objectives i refl h.objectives).terms k has
places_there P d l h g (HeadAt (Def i)) has = (def_at P d.definitions l.definitions i h.definitions).head has
places_there P d l h g (HeadAt (Con i)) has = (owner_at P true (λ t. t) d.bodies d.terms l.constraints i refl h.constraints).head (rw (body_in d.bodies i) at has)
places_there P d l h g (HeadAt (Obj i)) has = objective_head P d.objectives d.slopes l.objectives i h.objectives g (rw (given_in d.objectives i g) at has)

-- ---- all pieces are complete

pub lines_there : (P : ℕ → Type 0) (o : List ℤ) (c : Counts) (pieces : List Piece) → AreSound c pieces → All (λ q. is_complete c q ≡ true) pieces → All (AreRowLines P) pieces
    → All IsSome (draft_of o c pieces).objectives → (at : At) → HasPlace (file_of (draft_of o c pieces)) at → IsSomeAnd (place_line (place_lines c pieces) at) P
lines_there P o c pieces h whole rows those_given at has =
    places_there P (draft_of o c pieces) (place_lines c pieces) (lined P o c [] pieces (none_yet P o c) (follow [] pieces h.apart) (all_whole P c pieces h.each whole rows)) those_given at has
