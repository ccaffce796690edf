-- How many terms the file has, and how often each variable is used.
use Rattle.std.proofs.Common.{◌≡◌, ◌∙◌, ℕ, zero, suc, ◌+◌, ◌<◌, ◌≤◌, ◌==◌, Bool, true, false, List, [], ◌∷◌, ◌++◌, length, filter, sum_by, replicate, refl, ap, arith, get_or, slice_set, if◌then◌else◌}
use Rattle.std.specs.Prelude.{ℤ}
use Rattle.std.specs.List.{fold}
use Rattle.std.proofs.lemmas.List.{length-append}
use Rattle.std.proofs.lemmas.List.Elements.{filter-append}
use Rattle.std.proofs.lemmas.List.Sums.{sum_by-cons}
use Rattle.nl_model.specs.declared.header_counts.Counts.{Counts}
use Rattle.nl_model.specs.Draft.{Draft, empty_draft}
use Rattle.nl_model.specs.File.{Term}
use Rattle.nl_model.specs.Rules.{term_count}
use Rattle.nl_model.specs.UseCounts.{use_count, uses_in}
use Rattle.nl_lines.specs.declared.head.Head.{Head}
use Rattle.nl_lines.specs.declared.head.Head.TheVariants.{Body, Objective, Definition, Terms, Slopes, Suffix}
use Rattle.nl_lines.specs.Pieces.{Piece, is_complete, piece_pairs}
use Rattle.nl_lines.specs.Saying.{if_complete, said_by, with_piece, draft_of}
use Rattle.nl_lines.specs.Tests.{is_linear, pair_total}

-- ---- lists

-- a sum with one more list in row i
sum_set : (f : List Term → ℕ) (rows : List (List Term)) (i : ℕ) (x : List Term) → i < length rows → sum_by f (slice_set rows i x) + f (get_or rows i []) ≡ sum_by f rows + f x
sum_set f [] i x lt = absurd (omega (arith, lt))
sum_set f (r ∷ rows) zero x lt = rw (sum_by-cons f x rows, sum_by-cons f r rows) (omega arith)
sum_set f (r ∷ rows) (suc i) x lt =
    let rest = sum_set f rows i x (omega (arith, lt)) in
    let a = sum_by-cons f r (slice_set rows i x) in
    let b = sum_by-cons f r rows in
    omega arith

-- ---- uses of variables

pub use_more : (rows : List (List Term)) (i j : ℕ) (t : Term) → i < length rows
    → use_count (slice_set rows i (get_or rows i [] ++ t ∷ [])) j ≡ (if t.0 == j then use_count rows j + 1 else use_count rows j)
use_more rows i j t lt = by (t.0 == j) refl
  where
    f : List Term → ℕ
    f ts = uses_in ts j

    split : f (get_or rows i [] ++ t ∷ []) ≡ f (get_or rows i []) + f (t ∷ [])
    split = ap length (filter-append (λ t. t.0 == j) (get_or rows i []) (t ∷ [])) ∙ length-append (filter (λ t. t.0 == j) (get_or rows i [])) (filter (λ t. t.0 == j) (t ∷ []))

    sums : sum_by f (slice_set rows i (get_or rows i [] ++ t ∷ [])) + f (get_or rows i []) ≡ sum_by f rows + f (get_or rows i [] ++ t ∷ [])
    sums = sum_set f rows i (get_or rows i [] ++ t ∷ []) lt

    by : (b : Bool) → (t.0 == j) ≡ b → use_count (slice_set rows i (get_or rows i [] ++ t ∷ [])) j ≡ (if t.0 == j then use_count rows j + 1 else use_count rows j)
    by true e = let one : f (t ∷ []) ≡ 1 = rw e refl in rw e (omega (arith, split, sums, one))
    by false e = let one : f (t ∷ []) ≡ 0 = rw e refl in rw e (omega (arith, split, sums, one))

-- ---- terms of all constraints, and of one objective

count_set : (rows : List (List Term)) (i : ℕ) (ts : List Term) → term_count (slice_set rows i (get_or rows i [] ++ ts)) ≤ term_count rows + length ts
count_set [] i ts = omega arith
count_set (r ∷ rows) zero ts =
    let a = sum_by-cons {X = List Term} length (r ++ ts) rows in
    let b = sum_by-cons {X = List Term} length r rows in
    omega (arith, length-append r ts)
count_set (r ∷ rows) (suc i) ts =
    let a = sum_by-cons {X = List Term} length r (slice_set rows i (get_or rows i [] ++ ts)) in
    let b = sum_by-cons {X = List Term} length r rows in
    let rest = count_set rows i ts in
    omega arith

slopes_set : (rows : List (List Term)) (i k : ℕ) (ts : List Term) → length (get_or (slice_set rows i (get_or rows i [] ++ ts)) k []) ≤ length (get_or rows k []) + length ts
slopes_set [] i k ts = omega arith
slopes_set (r ∷ rows) zero zero ts = omega (arith, length-append r ts)
slopes_set (r ∷ rows) zero (suc k) ts = omega arith
slopes_set (r ∷ rows) (suc i) zero ts = omega arith
slopes_set (r ∷ rows) (suc i) (suc k) ts = slopes_set rows i k ts

-- ---- what a piece adds

-- linear terms of a piece
abbrev linear_in : Piece → Head → ℕ
linear_in p h = if is_linear h then length (piece_pairs p) else 0

kept_count : (f : Draft → ℕ) (d more : Draft) (p : Piece) (n : ℕ) → f more ≤ f d + n → f (if_complete d p more) ≤ f d + n
kept_count f d more p n h = by (is_complete d.counts p) refl
  where
    by : (b : Bool) → is_complete d.counts p ≡ b → f (if_complete d p more) ≤ f d + n
    by true e = rw e h
    by false e = rw e (omega arith)

abbrev all_terms : Draft → ℕ
all_terms d = term_count d.terms

terms_by : (d : Draft) (p : Piece) (h : Head) → all_terms (said_by d p h) ≤ all_terms d + linear_in p h
terms_by d p (Body i) = kept_count all_terms d _ p 0 (omega arith)
terms_by d p (Objective k m) = kept_count all_terms d _ p 0 (omega arith)
terms_by d p (Definition i j u) = kept_count all_terms d _ p (length (piece_pairs p)) (omega arith)
terms_by d p (Terms i n) = count_set d.terms i (piece_pairs p)
terms_by d p (Suffix k n) = kept_count all_terms d _ p 0 (omega arith)
terms_by d p head = omega arith

abbrev slopes_at : ℕ → Draft → ℕ
slopes_at k d = length (get_or d.slopes k [])

slopes_by : (k : ℕ) (d : Draft) (p : Piece) (h : Head) → slopes_at k (said_by d p h) ≤ slopes_at k d + linear_in p h
slopes_by k d p (Body i) = kept_count (slopes_at k) d _ p 0 (omega arith)
slopes_by k d p (Objective i m) = kept_count (slopes_at k) d _ p 0 (omega arith)
slopes_by k d p (Definition i j u) = kept_count (slopes_at k) d _ p (length (piece_pairs p)) (omega arith)
slopes_by k d p (Slopes i n) = slopes_set d.slopes i k (piece_pairs p)
slopes_by k d p (Suffix i n) = kept_count (slopes_at k) d _ p 0 (omega arith)
slopes_by k d p head = omega arith

total_first : (p : Piece) (pieces : List Piece) → pair_total is_linear (p ∷ pieces) ≡ linear_in p p.head + pair_total is_linear pieces
total_first p pieces = by (is_linear p.head) refl
  where
    by : (b : Bool) → is_linear p.head ≡ b → pair_total is_linear (p ∷ pieces) ≡ linear_in p p.head + pair_total is_linear pieces
    by true e = rw e (sum_by-cons (λ p. length (piece_pairs p)) p (filter (λ p. is_linear p.head) pieces))
    by false e = rw e (omega arith)

fold_count : (f : Draft → ℕ) → ((d : Draft) (p : Piece) (h : Head) → f (said_by d p h) ≤ f d + linear_in p h)
    → (pieces : List Piece) (d : Draft) → f (fold with_piece d pieces) ≤ f d + pair_total is_linear pieces
fold_count f step [] d = omega arith
fold_count f step (p ∷ pieces) d = omega (arith, fold_count f step pieces (with_piece d p), step d p p.head, total_first p pieces)

no_terms : (n : ℕ) → term_count (replicate n []) ≡ 0
no_terms zero = refl
no_terms (suc n) = no_terms n

no_slopes : (n k : ℕ) → length (get_or {A = List Term} (replicate n []) k []) ≡ 0
no_slopes zero k = refl
no_slopes (suc n) zero = refl
no_slopes (suc n) (suc k) = no_slopes n k

pub terms_few : (o : List ℤ) (c : Counts) (pieces : List Piece) → term_count (draft_of o c pieces).terms ≤ pair_total is_linear pieces
unfolding draft_of
terms_few o c pieces = omega (arith, fold_count all_terms terms_by pieces (empty_draft o c), no_terms c.n_con)

pub slopes_few : (o : List ℤ) (c : Counts) (pieces : List Piece) (k : ℕ) → length (get_or (draft_of o c pieces).slopes k []) ≤ pair_total is_linear pieces
unfolding draft_of
slopes_few o c pieces k = omega (arith, fold_count (slopes_at k) (slopes_by k) pieces (empty_draft o c), no_slopes c.n_obj k)
