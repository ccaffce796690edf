-- What a row more does to what pieces say. In each lemma p is the last piece, after the pieces `before`.
use Rattle.std.proofs.Common.{◌≡◌, ◌∙◌, ℕ, zero, suc, ◌<◌, Bool, true, false, List, [], ◌∷◌, ◌++◌, length, refl, sym, ap, arith, Some, get_or, slice_set}
use Rattle.std.specs.Prelude.{ℤ}
use Rattle.std.specs.List.{fold, cons_option}
use Rattle.std.proofs.lemmas.List.{append_assoc}
use Rattle.std.proofs.lemmas.List.Elements.{filter_map-append}
use Rattle.nl_model.specs.declared.header_counts.Counts.{Counts}
use Rattle.linear_program.specs.declared.interval.Interval.{Interval}
use Rattle.nl_model.specs.File.{Term}
use Rattle.nl_model.specs.Draft.{Draft, empty_draft}
use Rattle.nl_lines.specs.declared.head.Head.{Head}
use Rattle.nl_lines.specs.declared.head.Head.TheVariants.{Body, Objective, Definition, DualGuesses, PrimalGuesses, Sides, Bounds, ColumnCounts, Terms, Slopes, Suffix}
use Rattle.nl_lines.specs.Rows.{NumberedRow, row_words}
use Rattle.nl_lines.specs.Pieces.{Piece, is_complete, piece_pairs, piece_intervals, pair_in, interval_in}
use Rattle.nl_lines.specs.Saying.{if_complete, piece_tree, said_by, with_piece, draft_of}
use Rattle.nl_lines.proofs.PieceLemmas.{longer, draft-append}
use Rattle.nl_lines.proofs.RowLemmas.{early_pairs}

-- ---- the counts stay

complete_counts : (d more : Draft) (p : Piece) → more.counts ≡ d.counts → (if_complete d p more).counts ≡ d.counts
complete_counts d more p e = by (is_complete d.counts p) refl
  where
    by : (b : Bool) → is_complete d.counts p ≡ b → (if_complete d p more).counts ≡ d.counts
    by true t = rw t e
    by false t = rw t refl

pub piece_counts : (d : Draft) (p : Piece) (h : Head) → (said_by d p h).counts ≡ d.counts
piece_counts d p (Body i) = complete_counts d _ p refl
piece_counts d p (Objective k m) = complete_counts d _ p refl
piece_counts d p (Definition i j u) = complete_counts d _ p refl
piece_counts d p (Suffix k n) = complete_counts d _ p refl
piece_counts d p head = refl

fold_counts : (pieces : List Piece) (d : Draft) → (fold with_piece d pieces).counts ≡ d.counts
fold_counts [] d = refl
fold_counts (p ∷ pieces) d = fold_counts pieces (with_piece d p) ∙ piece_counts d p p.head

pub draft_counts : (o : List ℤ) (c : Counts) (pieces : List Piece) → (draft_of o c pieces).counts ≡ c
unfolding draft_of
draft_counts o c pieces = fold_counts pieces (empty_draft o c)

-- ---- pieces whose every line says something

-- the draft of the last piece by its head
by_head : (o : List ℤ) (c : Counts) (before : List Piece) (p : Piece) (h : Head) → p.head ≡ h → draft_of o c (before ++ p ∷ []) ≡ said_by (draft_of o c before) p h
by_head o c before p h e = draft-append o c before p ∙ ap (said_by (draft_of o c before) p) e

-- a change of the draft of the last piece
changed : (o : List ℤ) (c : Counts) (before : List Piece) (p : Piece) (row : NumberedRow) (h : Head) (change : Draft → Draft) → p.head ≡ h
    → said_by (draft_of o c before) (longer p row) h ≡ change (said_by (draft_of o c before) p h)
    → draft_of o c (before ++ longer p row ∷ []) ≡ change (draft_of o c (before ++ p ∷ []))
changed o c before p row h change e step = by_head o c before (longer p row) h e ∙ step ∙ ap change (sym (by_head o c before p h e))

one_more : {A : Type 0} (xs ys zs : List A) (x : A) → zs ≡ ys ++ x ∷ [] → xs ++ zs ≡ (xs ++ ys) ++ x ∷ []
one_more xs ys zs x e = ap (λ zs. xs ++ zs) e ∙ sym (append_assoc xs ys (x ∷ []))

pub with_dual : (o : List ℤ) (c : Counts) (before : List Piece) (p : Piece) (row : NumberedRow) (n : ℕ) (t : Term) → p.head ≡ DualGuesses n → length p.rows < n → pair_in (row_words row) ≡ Some t
    → draft_of o c (before ++ longer p row ∷ []) ≡ record (draft_of o c (before ++ p ∷ [])) { dual_guesses = (draft_of o c (before ++ p ∷ [])).dual_guesses ++ t ∷ [] }
with_dual o c before p row n t e early is =
    let d = draft_of o c before in
    let q = one_more d.dual_guesses (piece_pairs p) (piece_pairs (longer p row)) t (early_pairs p row t (rw e early) is) in
    changed o c before p row (DualGuesses n) (λ x. record x { dual_guesses = x.dual_guesses ++ t ∷ [] }) e (λ i. record d { dual_guesses = q i })

pub with_primal : (o : List ℤ) (c : Counts) (before : List Piece) (p : Piece) (row : NumberedRow) (n : ℕ) (t : Term) → p.head ≡ PrimalGuesses n → length p.rows < n → pair_in (row_words row) ≡ Some t
    → draft_of o c (before ++ longer p row ∷ []) ≡ record (draft_of o c (before ++ p ∷ [])) { primal_guesses = (draft_of o c (before ++ p ∷ [])).primal_guesses ++ t ∷ [] }
with_primal o c before p row n t e early is =
    let d = draft_of o c before in
    let q = one_more d.primal_guesses (piece_pairs p) (piece_pairs (longer p row)) t (early_pairs p row t (rw e early) is) in
    changed o c before p row (PrimalGuesses n) (λ x. record x { primal_guesses = x.primal_guesses ++ t ∷ [] }) e (λ i. record d { primal_guesses = q i })

-- intervals
more_intervals : (p : Piece) (row : NumberedRow) (i : Interval) → interval_in (row_words row) ≡ Some i → piece_intervals (longer p row) ≡ piece_intervals p ++ i ∷ []
more_intervals p row i is = filter_map-append (λ r. interval_in (row_words r)) p.rows (row ∷ []) ∙ ap (λ o. piece_intervals p ++ cons_option o []) is

pub with_side : (o : List ℤ) (c : Counts) (before : List Piece) (p : Piece) (row : NumberedRow) (i : Interval) → p.head ≡ Sides → interval_in (row_words row) ≡ Some i
    → draft_of o c (before ++ longer p row ∷ []) ≡ record (draft_of o c (before ++ p ∷ [])) { sides = (draft_of o c (before ++ p ∷ [])).sides ++ i ∷ [] }
with_side o c before p row i e is =
    let d = draft_of o c before in
    let q = one_more d.sides (piece_intervals p) (piece_intervals (longer p row)) i (more_intervals p row i is) in
    changed o c before p row Sides (λ x. record x { sides = x.sides ++ i ∷ [] }) e (λ k. record d { sides = q k })

pub with_bound : (o : List ℤ) (c : Counts) (before : List Piece) (p : Piece) (row : NumberedRow) (i : Interval) → p.head ≡ Bounds → interval_in (row_words row) ≡ Some i
    → draft_of o c (before ++ longer p row ∷ []) ≡ record (draft_of o c (before ++ p ∷ [])) { bounds = (draft_of o c (before ++ p ∷ [])).bounds ++ i ∷ [] }
with_bound o c before p row i e is =
    let d = draft_of o c before in
    let q = one_more d.bounds (piece_intervals p) (piece_intervals (longer p row)) i (more_intervals p row i is) in
    changed o c before p row Bounds (λ x. record x { bounds = x.bounds ++ i ∷ [] }) e (λ k. record d { bounds = q k })

-- a line of k says nothing
pub with_column : (o : List ℤ) (c : Counts) (before : List Piece) (p : Piece) (row : NumberedRow) (n : ℕ)
    → p.head ≡ ColumnCounts n → draft_of o c (before ++ longer p row ∷ []) ≡ draft_of o c (before ++ p ∷ [])
with_column o c before p row n e = changed o c before p row (ColumnCounts n) (λ x. x) e refl

-- ---- terms

pub set_again : {A : Type 0} (xs : List A) (i : ℕ) (x y : A) → slice_set (slice_set xs i x) i y ≡ slice_set xs i y
set_again [] i x y = refl
set_again (a ∷ xs) zero x y = refl
set_again (a ∷ xs) (suc i) x y = ap (λ ys. a ∷ ys) (set_again xs i x y)

pub get_set : {A : Type 0} (xs : List A) (i : ℕ) (x d : A) → i < length xs → get_or (slice_set xs i x) i d ≡ x
get_set [] i x d lt = absurd (omega (arith, lt))
get_set (a ∷ xs) zero x d lt = refl
get_set (a ∷ xs) (suc i) x d lt = get_set xs i x d (omega (arith, lt))

more_terms : (rows : List (List Term)) (i : ℕ) (ys zs : List Term) (t : Term) → i < length rows → zs ≡ ys ++ t ∷ []
    → slice_set rows i (get_or rows i [] ++ zs) ≡ slice_set (slice_set rows i (get_or rows i [] ++ ys)) i (get_or (slice_set rows i (get_or rows i [] ++ ys)) i [] ++ t ∷ [])
more_terms rows i ys zs t lt e =
    ap (slice_set rows i) (one_more (get_or rows i []) ys zs t e)
    ∙ sym (set_again rows i (get_or rows i [] ++ ys) ((get_or rows i [] ++ ys) ++ t ∷ []))
    ∙ ap (λ xs. slice_set (slice_set rows i (get_or rows i [] ++ ys)) i (xs ++ t ∷ [])) (sym (get_set rows i (get_or rows i [] ++ ys) [] lt))

pub with_term : (o : List ℤ) (c : Counts) (before : List Piece) (p : Piece) (row : NumberedRow) (i n : ℕ) (t : Term)
    → p.head ≡ Terms i n → length p.rows < n → i < length (draft_of o c before).terms → pair_in (row_words row) ≡ Some t
    → draft_of o c (before ++ longer p row ∷ [])
    ≡ record (draft_of o c (before ++ p ∷ [])) { terms = slice_set (draft_of o c (before ++ p ∷ [])).terms i (get_or (draft_of o c (before ++ p ∷ [])).terms i [] ++ t ∷ []) }
with_term o c before p row i n t e early within is =
    let d = draft_of o c before in
    let q = more_terms d.terms i (piece_pairs p) (piece_pairs (longer p row)) t within (early_pairs p row t (rw e early) is) in
    changed o c before p row (Terms i n) (λ x. record x { terms = slice_set x.terms i (get_or x.terms i [] ++ t ∷ []) }) e (λ k. record d { terms = q k })

pub with_slope : (o : List ℤ) (c : Counts) (before : List Piece) (p : Piece) (row : NumberedRow) (i n : ℕ) (t : Term)
    → p.head ≡ Slopes i n → length p.rows < n → i < length (draft_of o c before).slopes → pair_in (row_words row) ≡ Some t
    → draft_of o c (before ++ longer p row ∷ [])
    ≡ record (draft_of o c (before ++ p ∷ [])) { slopes = slice_set (draft_of o c (before ++ p ∷ [])).slopes i (get_or (draft_of o c (before ++ p ∷ [])).slopes i [] ++ t ∷ []) }
with_slope o c before p row i n t e early within is =
    let d = draft_of o c before in
    let q = more_terms d.slopes i (piece_pairs p) (piece_pairs (longer p row)) t within (early_pairs p row t (rw e early) is) in
    changed o c before p row (Slopes i n) (λ x. record x { slopes = slice_set x.slopes i (get_or x.slopes i [] ++ t ∷ []) }) e (λ k. record d { slopes = q k })

-- ---- pieces that say something where they are complete

unsaid : (d more : Draft) (c : Counts) (p : Piece) → d.counts ≡ c → is_complete c p ≡ false → if_complete d p more ≡ d
unsaid d more c p e f = rw (e, f) refl

said_whole : (d more : Draft) (c : Counts) (p : Piece) → d.counts ≡ c → is_complete c p ≡ true → if_complete d p more ≡ more
said_whole d more c p e t = rw (e, t) refl

-- heads of such pieces
abbrev pub says_whole : Head → Bool
says_whole (Body i) = true
says_whole (Objective k m) = true
says_whole (Definition i j u) = true
says_whole (Suffix kind n) = true
says_whole head = false

nothing_yet : (d : Draft) (c : Counts) (p : Piece) (h : Head) → d.counts ≡ c → says_whole h ≡ true → is_complete c p ≡ false → said_by d p h ≡ d
nothing_yet d c p (Body i) e w f = unsaid d _ c p e f
nothing_yet d c p (Objective k m) e w f = unsaid d _ c p e f
nothing_yet d c p (Definition i j u) e w f = unsaid d _ c p e f
nothing_yet d c p (Suffix k n) e w f = unsaid d _ c p e f
nothing_yet d c p head e w f = absurd cc

-- the draft before such a piece is complete
pub draft_before : (o : List ℤ) (c : Counts) (before : List Piece) (p : Piece) → says_whole p.head ≡ true → is_complete c p ≡ false → draft_of o c (before ++ p ∷ []) ≡ draft_of o c before
draft_before o c before p w f = draft-append o c before p ∙ nothing_yet (draft_of o c before) c p p.head (draft_counts o c before) w f

pub with_body : (o : List ℤ) (c : Counts) (before : List Piece) (p : Piece) (i : ℕ) → p.head ≡ Body i → is_complete c p ≡ true
    → draft_of o c (before ++ p ∷ []) ≡ record (draft_of o c before) { bodies = slice_set (draft_of o c before).bodies i (Some (piece_tree c p)) }
with_body o c before p i e t =
    let d = draft_of o c before in
    by_head o c before p (Body i) e ∙ said_whole d _ c p (draft_counts o c before) t
    ∙ ap (λ k. record d { bodies = slice_set d.bodies i (Some (piece_tree k p)) }) (draft_counts o c before)

pub with_objective : (o : List ℤ) (c : Counts) (before : List Piece) (p : Piece) (k : ℕ) (m : Bool) → p.head ≡ Objective k m → is_complete c p ≡ true
    → draft_of o c (before ++ p ∷ []) ≡ record (draft_of o c before) { objectives = slice_set (draft_of o c before).objectives k (Some (record { maximise = m; tree = piece_tree c p })) }
with_objective o c before p k m e t =
    let d = draft_of o c before in
    by_head o c before p (Objective k m) e ∙ said_whole d _ c p (draft_counts o c before) t
    ∙ ap (λ x. record d { objectives = slice_set d.objectives k (Some (record { maximise = m; tree = piece_tree x p })) }) (draft_counts o c before)

pub with_definition : (o : List ℤ) (c : Counts) (before : List Piece) (p : Piece) (i j u : ℕ) → p.head ≡ Definition i j u → is_complete c p ≡ true
    → draft_of o c (before ++ p ∷ []) ≡ record (draft_of o c before) {
      definitions = (draft_of o c before).definitions ++ record
          { index = i; terms = piece_pairs p; usage = u; tree = piece_tree c p } ∷ [];
    }
with_definition o c before p i j u e t =
    let d = draft_of o c before in
    by_head o c before p (Definition i j u) e ∙ said_whole d _ c p (draft_counts o c before) t
    ∙ ap (λ x. record d { definitions = d.definitions ++ record { index = i; terms = piece_pairs p; usage = u; tree = piece_tree x p } ∷ [] }) (draft_counts o c before)

pub with_suffix : (o : List ℤ) (c : Counts) (before : List Piece) (p : Piece) (kind n : ℕ) → p.head ≡ Suffix kind n → is_complete c p ≡ true
    → draft_of o c (before ++ p ∷ []) ≡ record (draft_of o c before) { suffixes = (draft_of o c before).suffixes ++ record { kind = kind; name = p.name; values = piece_pairs p } ∷ [] }
with_suffix o c before p kind n e t = by_head o c before p (Suffix kind n) e ∙ said_whole (draft_of o c before) _ c p (draft_counts o c before) t
