-- A row more in the last piece: what it does to the lines of places, and, where it is no head, what stays of what is held and by which tests it is judged.
use Rattle.std.proofs.Common.{◌≡◌, ◌∙◌, ℕ, ◌-◌, ◌<◌, true, List, [], ◌∷◌, ◌++◌, length, refl, sym, ap, ap₂, arith, Some, get_or, slice_set, subst, ◌+◌, Bool, false, filter, Option, None, All}
use Rattle.std.specs.Option.{option_or}
use Rattle.std.specs.List.{fold, list_any}
use Rattle.std.proofs.lemmas.Bool.{ltb-true}
use Rattle.std.proofs.lemmas.List.{length-append, length-set, length-replicate, get_or_append_left}
use Rattle.nl_model.specs.declared.header_counts.Counts.{Counts}
use Rattle.nl_lines.specs.declared.head.Head.{Head}
use Rattle.nl_lines.specs.declared.head.Head.TheVariants.{Body as BodyHead, Objective, Definition, Terms, Slopes}
use Rattle.nl_lines.specs.Heads.{is_in_range, is_head}
use Rattle.nl_lines.specs.Rows.{NumberedRow, row_words}
use Rattle.nl_lines.specs.Nodes.{nodes_from}
use Rattle.nl_lines.specs.Pieces.{Piece, has_tree, last_piece, is_complete, piece_nodes, piece_pairs, awaited_of, awaited_in}
use Rattle.nl_lines.specs.Tests.{is_linear, awaited_tests, is_same_piece, is_suffix, node_total, pair_total, row_tests, suffix_count}
use Rattle.nl_lines.specs.Saying.{OwnerLines, PlaceLines, no_lines, empty_lines, node_lines, term_lines, with_tree_lines, with_term_lines, changed, more_lines, place_lines}
use Rattle.nl_segments.specs.InsidePlaceSteps.{HasOwner, with_begun, with_node_line, with_term_line, more_nodes, more_terms, HasBegun}
use Rattle.nl_lines.proofs.PieceLemmas.{drop_none, longer, take_none, lines-append, split, extended-append}
use Rattle.nl_lines.proofs.DraftLemmas.{set_again, get_set}
use Rattle.std.specs.Prelude.{AllPairs, IsSomeAnd, if◌then◌else◌, Ok}
use Rattle.std.proofs.Math.Seq.{get_or-append_seam}
use Rattle.std.proofs.lemmas.List.Elements.{All-push, filter-append}
use Rattle.std.proofs.lemmas.List.Folds.{list_any-append}
use Rattle.std.proofs.lemmas.List.Quantifiers.{all_pairs_push}
use Rattle.text_base.specs.Judged.{first_reason}
use Rattle.nl_lines.specs.declared.awaited.Awaited.{Awaited}
use Rattle.nl_segments.specs.Grammar.{Standing, counts_of, said}
use Rattle.nl_segments.specs.Steps.{after_body_row}
use Rattle.nl_segments.specs.Current.{Current, current_awaits}
use Rattle.nl_segments.specs.Held.{Body, AreSeen, IsAwaiting, AreSound, IsHeld, IsLast, IsOpen, IsSoundPiece, words_refusal, IsRowOf, TakesRow}
use Rattle.nl_segments.proofs.CurrentLemmas.{awaits}
use Rattle.nl_lines.proofs.TotalLemmas.{nodes-append, pairs-append, pairs-other}

-- ---- owners

changed_again : (f g : OwnerLines → OwnerLines) (xs : List OwnerLines) (i : ℕ) → i < length xs → changed f (changed g xs i) i ≡ slice_set xs i (f (g (get_or xs i no_lines)))
changed_again f g xs i lt =
    ap (λ o. slice_set (changed g xs i) i (f o)) (get_set xs i (g (get_or xs i no_lines)) no_lines lt)
    ∙ set_again xs i (g (get_or xs i no_lines)) (f (g (get_or xs i no_lines)))

changed_more : (f g h : OwnerLines → OwnerLines) (xs : List OwnerLines) (i : ℕ) → i < length xs
    → h (get_or xs i no_lines) ≡ f (g (get_or xs i no_lines)) → changed h xs i ≡ changed f (changed g xs i) i
changed_more f g h xs i lt e = ap (slice_set xs i) e ∙ sym (changed_again f g xs i lt)

changed_last : (f : OwnerLines → OwnerLines) (xs : List OwnerLines) (x y : OwnerLines) → y ≡ f x → xs ++ y ∷ [] ≡ changed f (xs ++ x ∷ []) (length (xs ++ x ∷ []) - 1)
changed_last f xs x y e = by xs ∙ ap (changed f (xs ++ x ∷ [])) (omega (arith, length-append xs (x ∷ [])))
  where
    by : (xs : List OwnerLines) → xs ++ y ∷ [] ≡ changed f (xs ++ x ∷ []) (length xs)
    by [] = ap (λ o. o ∷ []) e
    by (z ∷ xs) = ap (λ os. z ∷ os) (by xs)

-- ---- a head

pub place_begun : (c : Counts) (l : PlaceLines) (head : Head) (name : List ℕ) (line : ℕ) → more_lines c l (record { head = head; name = name; line = line; rows = [] }) head ≡ with_begun l line head
unfolding nodes_from
place_begun c l (Definition i j u) name line = rw (drop_none j, take_none j) refl
place_begun c l (Terms i n) name line = rw (take_none n) refl
place_begun c l (Slopes k n) name line = rw (take_none n) refl
place_begun c l head name line = refl

-- ---- a node

with_tree_more : (c : Counts) (p : Piece) (row : NumberedRow) (line : ℕ) (o : OwnerLines)
    → node_lines c (longer p row) ≡ node_lines c p ++ line ∷ []
    → with_tree_lines c (longer p row) o ≡ more_nodes line (with_tree_lines c p o)
with_tree_more c p row line o e = λ i. record { head = Some p.line; nodes = e i; terms = o.terms }

pub place_node : (c : Counts) (l : PlaceLines) (p : Piece) (row : NumberedRow) (line : ℕ) (h : Head) → HasOwner l h → has_tree h ≡ true
    → node_lines c (longer p row) ≡ node_lines c p ++ line ∷ [] → term_lines (longer p row) ≡ term_lines p
    → more_lines c l (longer p row) h ≡ with_node_line (more_lines c l p h) line h
place_node c l p row line (BodyHead i) owner tree e t =
    let q = changed_more (more_nodes line) (with_tree_lines c p) (with_tree_lines c (longer p row)) l.constraints i owner (with_tree_more c p row line (get_or l.constraints i no_lines) e) in
    λ k. record l { constraints = q k }
place_node c l p row line (Objective i m) owner tree e t =
    let q = changed_more (more_nodes line) (with_tree_lines c p) (with_tree_lines c (longer p row)) l.objectives i owner (with_tree_more c p row line (get_or l.objectives i no_lines) e) in
    λ k. record l { objectives = q k }
place_node c l p row line (Definition i j u) owner tree e t =
    let q = changed_last (more_nodes line) l.definitions (record { head = Some p.line; nodes = node_lines c p; terms = term_lines p })
    (record { head = Some p.line; nodes = node_lines c (longer p row); terms = term_lines (longer p row) })
    (λ k. record { head = Some p.line; nodes = e k; terms = t k }) in
    λ k. record l { definitions = q k }
place_node c l p row line head owner tree e t = absurd cc

-- ---- a term

pub place_term : (c : Counts) (l : PlaceLines) (p : Piece) (row : NumberedRow) (line : ℕ) (h : Head) → HasOwner l h → is_linear h ≡ true
    → node_lines c (longer p row) ≡ node_lines c p → term_lines (longer p row) ≡ term_lines p ++ line ∷ []
    → more_lines c l (longer p row) h ≡ with_term_line (more_lines c l p h) line h
place_term c l p row line (Terms i n) owner linear e t =
    let q = changed_more (more_terms line) (with_term_lines p) (with_term_lines (longer p row)) l.constraints i owner
    (λ k. record { head = option_or (get_or l.constraints i no_lines).head (Some p.line); nodes = (get_or l.constraints i no_lines).nodes; terms = t k }) in
    λ k. record l { constraints = q k }
place_term c l p row line (Slopes i n) owner linear e t =
    let q = changed_more (more_terms line) (λ o. record o { terms = term_lines p }) (λ o. record o { terms = term_lines (longer p row) }) l.objectives i owner
    (λ k. record (get_or l.objectives i no_lines) { terms = t k }) in
    λ k. record l { objectives = q k }
place_term c l p row line (Definition i j u) owner linear e t =
    let q = changed_last (more_terms line) l.definitions (record { head = Some p.line; nodes = node_lines c p; terms = term_lines p })
    (record { head = Some p.line; nodes = node_lines c (longer p row); terms = term_lines (longer p row) })
    (λ k. record { head = Some p.line; nodes = e k; terms = t k }) in
    λ k. record l { definitions = q k }
place_term c l p row line head owner linear e t = absurd cc

-- ---- no node and no term

pub place_same : (c : Counts) (l : PlaceLines) (p : Piece) (row : NumberedRow) (h : Head)
    → node_lines c (longer p row) ≡ node_lines c p → term_lines (longer p row) ≡ term_lines p
    → more_lines c l (longer p row) h ≡ more_lines c l p h
place_same c l p row (BodyHead i) e t = ap (λ (ns : List ℕ). record l { constraints = changed (λ o. record { head = Some p.line; nodes = ns; terms = o.terms }) l.constraints i }) e
place_same c l p row (Objective k m) e t = ap (λ (ns : List ℕ). record l { objectives = changed (λ o. record { head = Some p.line; nodes = ns; terms = o.terms }) l.objectives k }) e
place_same c l p row (Definition i j u) e t = ap₂ (λ (ns ts : List ℕ). record l { definitions = l.definitions ++ record { head = Some p.line; nodes = ns; terms = ts } ∷ [] }) e t
place_same c l p row (Terms i n) e t = ap (λ (ts : List ℕ). record l { constraints = changed (λ o. record { head = option_or o.head (Some p.line); nodes = o.nodes; terms = ts }) l.constraints i }) t
place_same c l p row (Slopes k n) e t = ap (λ (ts : List ℕ). record l { objectives = changed (λ o. record o { terms = ts }) l.objectives k }) t
place_same c l p row head e t = refl

-- ---- owners have their places

counted : (c : Counts) (l : PlaceLines) (p : Piece) (h : Head) → (length (more_lines c l p h).constraints ≡ length l.constraints) × (length (more_lines c l p h).objectives ≡ length l.objectives)
counted c l p (BodyHead i) = (length-set l.constraints i _, refl)
counted c l p (Objective k m) = (refl, length-set l.objectives k _)
counted c l p (Terms i n) = (length-set l.constraints i _, refl)
counted c l p (Slopes k n) = (refl, length-set l.objectives k _)
counted c l p head = (refl, refl)

-- a fold keeps what each of its steps keeps
pub fold_keeps : {A B C : Type 0} (f : A → C) (step : A → B → A) → ((a : A) (x : B) → f (step a x) ≡ f a) → (xs : List B) (a : A) → f (fold step a xs) ≡ f a
fold_keeps f step keeps [] a = refl
fold_keeps f step keeps (x ∷ xs) a = fold_keeps f step keeps xs (step a x) ∙ keeps a x

pub place_counts : (c : Counts) (pieces : List Piece) → (length (place_lines c pieces).constraints ≡ c.n_con) × (length (place_lines c pieces).objectives ≡ c.n_obj)
unfolding place_lines
place_counts c pieces = (
  fold_keeps (λ (l : PlaceLines). length l.constraints) (λ l p. more_lines c l p p.head) (λ l p. (counted c l p p.head).0) pieces (empty_lines c) ∙ length-replicate c.n_con _,
  fold_keeps (λ (l : PlaceLines). length l.objectives) (λ l p. more_lines c l p p.head) (λ l p. (counted c l p p.head).1) pieces (empty_lines c) ∙ length-replicate c.n_obj _,
)

-- ---- owners of heads

pub owner_there : (c : Counts) (pieces : List Piece) (h : Head) → is_in_range c h ≡ true → HasOwner (place_lines c pieces) h
unfolding is_in_range
owner_there c pieces (BodyHead i) e = rw (place_counts c pieces).0 (ltb-true i c.n_con e)
owner_there c pieces (Objective k m) e = rw (place_counts c pieces).1 (ltb-true k c.n_obj e)
owner_there c pieces (Terms i n) e = rw (place_counts c pieces).0 (ltb-true i c.n_con e)
owner_there c pieces (Slopes k n) e = rw (place_counts c pieces).1 (ltb-true k c.n_obj e)
owner_there c pieces head e = tt

pub begun_there : (c : Counts) (before : List Piece) (p : Piece) → HasBegun (place_lines c (before ++ p ∷ [])) p.head
begun_there c before p = subst (λ l. HasBegun l p.head) (sym (lines-append c before p)) (by p.head)
  where
    by : (h : Head) → HasBegun (more_lines c (place_lines c before) p h) h
    by (Definition i j u) = omega (arith, length-append (place_lines c before).definitions (record { head = Some p.line; nodes = node_lines c p; terms = term_lines p } ∷ []))
    by head = tt

-- ---- the piece that is held

abbrev pub at : List (List (List ℕ)) → List Piece → Standing
at header pieces = record { header = header; pieces = pieces }

-- the last piece of which this is held, and those before it
pub record Opened (s : Standing) (b : Body) (cur : Current) : Type 0 where
  pub before : List Piece
  pub piece : Piece
  pub whole : s ≡ at s.header (before ++ piece ∷ [])
  pub last : last_piece s.pieces ≡ Some piece
  pub is_open : IsOpen (counts_of s) b.draft b.name piece cur

pub opened : (s : Standing) (b : Body) (cur : Current) → b.current ≡ Some cur → IsHeld s b → Opened s b cur
opened s b cur e h = by (last_piece s.pieces) refl (subst (IsLast (counts_of s) b.draft b.name (last_piece s.pieces)) e h.last)
  where
    by : (o : Option Piece) → last_piece s.pieces ≡ o → IsLast (counts_of s) b.draft b.name o (Some cur) → Opened s b cur
    by None q l = absurd l
    by (Some p) q l =
        let parts = split s.pieces p q in
        record { before = parts.before; piece = p; whole = λ i. record { header = s.header; pieces = parts.whole i }; last = q; is_open = l }

-- the piece that is held awaits this line
pub record Awaits (b : Body) (kind : Awaited) : Type 0 where
  pub cur : Current
  pub is : b.current ≡ Some cur
  pub awaits_it : current_awaits cur ≡ kind

pub awaiting : (b : Body) (kind : Awaited) → IsAwaiting kind b → Awaits b kind
awaiting b kind h = by b.current refl h
  where
    by : (o : Option Current) → b.current ≡ o → IsSomeAnd o (λ c. current_awaits c ≡ kind) → Awaits b kind
    by None e none = absurd none
    by (Some cur) e a = record { cur = cur; is = e; awaits_it = a }

pub awaits_as : (b : Body) (cur : Current) (kind : Awaited) → b.current ≡ Some cur → IsAwaiting kind b → current_awaits cur ≡ kind
awaits_as b cur kind e h = subst (λ o. IsSomeAnd o (λ c. current_awaits c ≡ kind)) e h

-- ---- the tests of the row

pub awaited-last : (c : Counts) (pieces : List Piece) (p : Piece) → last_piece pieces ≡ Some p → awaited_of c pieces ≡ awaited_in c p
awaited-last c pieces p e = rw e refl

pub judged_by : (s : Standing) (b : Body) (cur : Current) (words : List (List ℕ)) (kind : Awaited) (o : Opened s b cur) → is_head words ≡ false → current_awaits cur ≡ kind
    → words_refusal s words ≡ first_reason (awaited_tests (counts_of s) (said s) s.pieces o.piece words kind)
unfolding row_tests
judged_by s b cur words kind o plain e =
    let kind_is : awaited_of (counts_of s) s.pieces ≡ kind = awaited-last (counts_of s) s.pieces o.piece o.last ∙ sym (awaits (counts_of s) o.piece cur o.is_open.current) ∙ e in
    rw (plain, o.last) (ap (λ k. first_reason (awaited_tests (counts_of s) (said s) s.pieces o.piece words k)) kind_is)

-- ---- the pieces with the row

pub row_after : (header : List (List (List ℕ))) (before : List Piece) (p : Piece) (row : NumberedRow) → is_head (row_words row) ≡ false
    → after_body_row (at header (before ++ p ∷ [])) row ≡ at header (before ++ longer p row ∷ [])
row_after header before p row plain = rw plain (ap (at header) (extended-append before p row))

-- a row with which nothing is wrong is taken, where what is held after it is that of the last piece with it
pub last_taken : (b new : Body) (cur : Current) (words : List (List ℕ)) (line : ℕ) → is_head words ≡ false → ((s : Standing) → IsHeld s b → words_refusal s words ≡ None)
    → ((s : Standing) (row : NumberedRow) → IsRowOf row words line → IsHeld s b
    → (o : Opened s b cur) × IsHeld (at s.header (o.before ++ longer o.piece row ∷ [])) new)
    → TakesRow b words line (Ok tt) new
last_taken b new cur words line plain fine step s row is h =
    let next = step s row is h in
    let after = row_after s.header next.0.before next.0.piece row (ap is_head is.same_words ∙ plain) in
    (fine s h, subst (λ t. IsHeld (after_body_row t row) new) (sym next.0.whole) (subst (λ t. IsHeld t new) (sym after) next.1))

-- ---- what stays

-- with another last one
pub other_last : {X : Type 0} (P : X → Type 0) (before : List X) (p q : X) → All P (before ++ p ∷ []) → P q → All P (before ++ q ∷ [])
other_last P before p q h new = All-push P before q
    (λ k d lt. subst P (get_or_append_left before (p ∷ []) d k lt) (h k d (omega (arith, lt, length-append before (p ∷ []))))) new

pub last_of : {X : Type 0} (P : X → Type 0) (before : List X) (p : X) → All P (before ++ p ∷ []) → P p
last_of P before p h = subst P (get_or-append_seam before p [] p) (h (length before) p (omega (arith, length-append before (p ∷ []))))

pub last_sound : (c : Counts) (before : List Piece) (p : Piece) → AreSound c (before ++ p ∷ []) → IsSoundPiece c p
last_sound c before p h = last_of (IsSoundPiece c) before p h.each

abbrev pub Apart : Piece → Piece → Type 0
Apart p q = is_same_piece q.head q.name p ≡ false

pub front_apart : (xs ys : List Piece) → AllPairs Apart (xs ++ ys) → AllPairs Apart xs
front_apart xs ys h i j d lt within =
    let early : i < length xs = omega arith in
    subst (λ x. Apart x (get_or xs j d)) (get_or_append_left xs ys d i early)
    (subst (λ y. Apart (get_or (xs ++ ys) i d) y) (get_or_append_left xs ys d j within) (h i j d lt (omega (arith, within, length-append xs ys))))

apart_last : (before : List Piece) (p : Piece) → AllPairs Apart (before ++ p ∷ []) → (k : ℕ) (d : Piece) → k < length before → Apart (get_or before k d) p
apart_last before p h k d lt =
    subst (λ x. Apart x p) (get_or_append_left before (p ∷ []) d k lt)
    (subst (λ y. Apart (get_or (before ++ p ∷ []) k d) y) (get_or-append_seam before p [] d) (h k (length before) d lt (omega (arith, length-append before (p ∷ [])))))

abbrev pub front : List Piece → List Piece
front [] = []
front (p ∷ []) = []
front (p ∷ q ∷ pieces) = p ∷ front (q ∷ pieces)

pub front-append : (before : List Piece) (p : Piece) → front (before ++ p ∷ []) ≡ before
front-append [] p = refl
front-append (q ∷ []) p = refl
front-append (q ∷ r ∷ before) p = ap (λ ps. q ∷ ps) (front-append (r ∷ before) p)

pub sound_longer : (c : Counts) (before : List Piece) (p : Piece) (row : NumberedRow) → AreSound c (before ++ p ∷ []) → IsSoundPiece c (longer p row) → AreSound c (before ++ longer p row ∷ [])
sound_longer c before p row h new =
    record {
      each = other_last (IsSoundPiece c) before p (longer p row) h.each new;
      apart = all_pairs_push Apart before (longer p row) (front_apart before (p ∷ []) h.apart) (apart_last before p h.apart);
      complete = λ b q e. subst (All (λ q. is_complete c q ≡ true)) (sym (front-append before (longer p row)) ∙ ap front e ∙ front-append b q) (h.complete before p refl);
    }

pub seen_longer : (before : List Piece) (p : Piece) (row : NumberedRow) (head : Head)
    → list_any (is_same_piece head []) (before ++ longer p row ∷ []) ≡ list_any (is_same_piece head []) (before ++ p ∷ [])
seen_longer before p row head = list_any-append (is_same_piece head []) before (longer p row ∷ []) ∙ sym (list_any-append (is_same_piece head []) before (p ∷ []))

pub are_seen_longer : (c : Counts) (b : Body) (before : List Piece) (p : Piece) (row : NumberedRow) → AreSeen c b.seen (before ++ p ∷ []) → AreSeen c b.seen (before ++ longer p row ∷ [])
are_seen_longer c b before p row h head range = (let old = h head range in (old.0, λ plain. old.1 plain ∙ sym (seen_longer before p row head)))

-- how many suffixes, and how many pairs, with one piece more
pub suffixes_with : (before : List Piece) (q : Piece) → suffix_count (before ++ q ∷ []) ≡ suffix_count before + (if is_suffix q.head then 1 else 0)
suffixes_with before q = ap length (filter-append (λ p. is_suffix p.head) before (q ∷ [])) ∙ length-append (filter (λ p. is_suffix p.head) before) _ ∙ by (is_suffix q.head) refl
  where
    by : (t : Bool) → is_suffix q.head ≡ t → suffix_count before + length (filter (λ p. is_suffix p.head) (q ∷ [])) ≡ suffix_count before + (if is_suffix q.head then 1 else 0)
    by true e = rw e refl
    by false e = rw e refl

pub suffixes_longer : (before : List Piece) (p : Piece) (row : NumberedRow) → suffix_count (before ++ longer p row ∷ []) ≡ suffix_count (before ++ p ∷ [])
suffixes_longer before p row = suffixes_with before (longer p row) ∙ sym (suffixes_with before p)

pub pairs_with : (counts : Head → Bool) (before : List Piece) (q : Piece) → pair_total counts (before ++ q ∷ []) ≡ pair_total counts before + (if counts q.head then length (piece_pairs q) else 0)
pairs_with counts before q = by (counts q.head) refl
  where
    by : (t : Bool) → counts q.head ≡ t → pair_total counts (before ++ q ∷ []) ≡ pair_total counts before + (if counts q.head then length (piece_pairs q) else 0)
    by true e = pairs-append counts before q e ∙ rw e refl
    by false e = pairs-other counts before q e ∙ rw e (omega arith)

pub nodes_longer : (c : Counts) (before : List Piece) (p : Piece) (row : NumberedRow)
    → piece_nodes c (longer p row) ≡ piece_nodes c p → node_total c (before ++ longer p row ∷ [])
    ≡ node_total c (before ++ p ∷ [])
nodes_longer c before p row e = nodes-append c before (longer p row) ∙ ap (λ ns. node_total c before + length ns) e ∙ sym (nodes-append c before p)

-- one pair more counts where such heads are counted
pub pairs_longer : (counts : Head → Bool) (before : List Piece) (p : Piece) (row : NumberedRow) (more : ℕ) → length (piece_pairs (longer p row)) ≡ length (piece_pairs p) + more
    → pair_total counts (before ++ longer p row ∷ []) ≡ (if counts p.head then pair_total counts (before ++ p ∷ []) + more else pair_total counts (before ++ p ∷ []))
pairs_longer counts before p row more e = by (counts p.head) (pairs_with counts before (longer p row)) (pairs_with counts before p)
  where
    by : (t : Bool) → pair_total counts (before ++ longer p row ∷ []) ≡ pair_total counts before + (if t then length (piece_pairs (longer p row)) else 0)
        → pair_total counts (before ++ p ∷ []) ≡ pair_total counts before + (if t then length (piece_pairs p) else 0)
        → pair_total counts (before ++ longer p row ∷ []) ≡ (if t then pair_total counts (before ++ p ∷ []) + more else pair_total counts (before ++ p ∷ []))
    by true q r = omega (arith, q, r, e)
    by false q r = q ∙ sym r

-- ---- the owner of the piece that is held

pub has_owner : (s : Standing) (b : Body) (cur : Current) (h : Head) → IsHeld s b → b.current ≡ Some cur → h ≡ cur.head → HasOwner b.places h
has_owner s b cur h held e same =
    let o = opened s b cur e held in
    let at_last = subst (λ x. IsHeld x b) o.whole held in
    let range = (last_sound (counts_of s) o.before o.piece at_last.sound).range in
    subst (λ l. HasOwner l h) (sym held.places) (owner_there (counts_of s) s.pieces h (ap (is_in_range (counts_of s)) (same ∙ o.is_open.current.head) ∙ range))

pub has_begun : (s : Standing) (b : Body) (cur : Current) (h : Head) → IsHeld s b → b.current ≡ Some cur → h ≡ cur.head → HasBegun b.places h
has_begun s b cur h held e same =
    let o = opened s b cur e held in
    let at_last = subst (λ x. IsHeld x b) o.whole held in
    subst (λ l. HasBegun l h) (sym at_last.places) (subst (HasBegun
    (place_lines (counts_of s) (o.before ++ o.piece ∷ []))) (sym (same ∙ o.is_open.current.head))
    (begun_there (counts_of s) o.before o.piece))
