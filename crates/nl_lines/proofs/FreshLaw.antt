-- A head that did not come before has given nothing.
use Rattle.std.proofs.Common.{◌≡◌, ◌≢◌, ◌∙◌, ℕ, zero, suc, ◌==◌, Bool, true, false, List, [], ◌∷◌, ◌++◌, length, replicate, refl, sym, ap, arith, subst, get_or, slice_set, Option, None}
use Rattle.std.specs.Prelude.{ℤ, All, AllPairs}
use Rattle.std.specs.List.{fold, list_any}
use Rattle.std.proofs.lemmas.Bool.{eqb-true, eqb-false}
use Rattle.std.proofs.lemmas.List.{length-append, get_or_append_left, get_or_push, get_or-set_other}
use Rattle.std.proofs.lemmas.List.Folds.{list_any_none, list_any-append}
use Rattle.nl_model.specs.declared.header_counts.Counts.{Counts}
use Rattle.nl_model.specs.Draft.{Draft, empty_draft, is_given}
use Rattle.nl_model.specs.Rules.{is_defined}
use Rattle.nl_lines.specs.declared.head.Head.{Head}
use Rattle.nl_lines.specs.declared.head.Head.TheVariants.{Body, Objective, Definition, DualGuesses, PrimalGuesses, Sides, Bounds, ColumnCounts, Terms, Slopes, Suffix}
use Rattle.nl_lines.specs.Pieces.{Piece, is_complete}
use Rattle.nl_lines.specs.Tests.{is_suffix, is_same_head, is_same_piece}
use Rattle.nl_lines.specs.Saying.{if_complete, said_by, with_piece, draft_of}

-- ---- heads

-- of the last piece of pieces that are apart, no head came before
pub none_before : (before : List Piece) (p : Piece) → AllPairs (λ q r. is_same_piece r.head r.name q ≡ false) (before ++ p ∷ []) → list_any (is_same_piece p.head p.name) before ≡ false
none_before before p apart = list_any_none (is_same_piece p.head p.name) before each
  where
    each : All (λ q. is_same_piece p.head p.name q ≡ false) before
    each k d lt =
        let is = apart k (length before) d lt (omega (arith, length-append before (p ∷ []))) in
        subst (λ q. is_same_piece p.head p.name q ≡ false) (get_or_append_left before (p ∷ []) d k lt)
        (subst (λ r. is_same_piece r.head r.name (get_or (before ++ p ∷ []) k d) ≡ false) (get_or_push before p d (length before) refl) is)

unlike_head : (head : Head) (name : List ℕ) (p : Piece) → is_suffix head ≡ false → is_same_piece head name p ≡ false → is_same_head head p.head ≡ false
unlike_head head name p f e = by (is_same_head head p.head) refl
  where
    by : (t : Bool) → is_same_head head p.head ≡ t → is_same_head head p.head ≡ false
    by false s = s
    by true s = let wrong : true ≡ false = rw (s, f) at e in absurd cc

unlike_swapped : (i k : ℕ) → (i == k) ≡ false → (k == i) ≡ false
unlike_swapped i k e = by (k == i) refl
  where
    by : (t : Bool) → (k == i) ≡ t → (k == i) ≡ false
    by false s = s
    by true s = absurd (eqb-false i k e (sym (eqb-true k i s)))

-- ---- what each piece keeps

-- whether the piece is complete or not
pub either : (P : Draft → Type 0) (d more : Draft) (p : Piece) → P d → P more → P (if_complete d p more)
either P d more p f g = by (is_complete d.counts p) refl
  where
    by : (t : Bool) → is_complete d.counts p ≡ t → P (if_complete d p more)
    by true s = rw s g
    by false s = rw s f

keeps : (P : Draft → Type 0) (same : Piece → Bool) → ((d : Draft) (p : Piece) → same p ≡ false → P d → P (with_piece d p))
    → (pieces : List Piece) (d : Draft) → list_any same pieces ≡ false → P d → P (fold with_piece d pieces)
keeps P same step [] d e f = f
keeps P same step (p ∷ pieces) d e f = by (same p) refl (keeps P same step pieces (with_piece d p))
  where
    by : (t : Bool) → same p ≡ t → (list_any same pieces ≡ false → P (with_piece d p) → P (fold with_piece (with_piece d p) pieces)) → P (fold with_piece (with_piece d p) pieces)
    by true s rest = let wrong : true ≡ false = rw s at e in absurd cc
    by false s rest = rest (rw s at e) (step d p s f)

given_other : {A : Type 0} (xs : List (Option A)) (i k : ℕ) (x : Option A) → i ≢ k → is_given (slice_set xs k x) i ≡ is_given xs i
given_other [] i k x ne = refl
given_other (a ∷ xs) zero zero x ne = absurd (ne refl)
given_other (a ∷ xs) zero (suc k) x ne = refl
given_other (a ∷ xs) (suc i) zero x ne = refl
given_other (a ∷ xs) (suc i) (suc k) x ne = given_other xs i k x (λ e. ne (ap suc e))

none_given : (A : Type 0) (n i : ℕ) → is_given {A = A} (replicate n None) i ≡ false
none_given A zero i = refl
none_given A (suc n) zero = refl
none_given A (suc n) (suc i) = none_given A n i

none_there : (A : Type 0) (n i : ℕ) → get_or {A = List A} (replicate n []) i [] ≡ []
none_there A zero i = refl
none_there A (suc n) zero = refl
none_there A (suc n) (suc i) = none_there A n i

-- ---- a head that did not come before

-- nothing is there of what a head gives; suffixes and numbers of columns are not asked
abbrev pub GaveNone : Draft → Head → Type 0
GaveNone d (Body i) = is_given d.bodies i ≡ false
GaveNone d (Objective k m) = is_given d.objectives k ≡ false
GaveNone d (Definition i j u) = is_defined d.definitions i ≡ false
GaveNone d (DualGuesses n) = d.dual_guesses ≡ []
GaveNone d (PrimalGuesses n) = d.primal_guesses ≡ []
GaveNone d Sides = d.sides ≡ []
GaveNone d Bounds = d.bounds ≡ []
GaveNone d (Terms i n) = get_or d.terms i [] ≡ []
GaveNone d (Slopes k n) = get_or d.slopes k [] ≡ []
GaveNone d head = Unit {0}

-- another segment leaves it so
kept : (d : Draft) (p : Piece) (g h : Head) → is_same_head h g ≡ false → GaveNone d h → GaveNone (said_by d p g) h
kept d p g (ColumnCounts n) e f = tt
kept d p g (Suffix a n) e f = tt
kept d p (Body k) (Body i) e f = either (λ x. is_given x.bodies i ≡ false) d _ p f (given_other d.bodies i k _ (eqb-false i k e) ∙ f)
kept d p (Body k) h e f = either (λ x. GaveNone x h) d _ p f f
kept d p (Objective k m) (Objective i n) e f = either (λ x. is_given x.objectives i ≡ false) d _ p f (given_other d.objectives i k _ (eqb-false i k e) ∙ f)
kept d p (Objective k m) h e f = either (λ x. GaveNone x h) d _ p f f
kept d p (Definition k j u) (Definition i l v) e f = either (λ x. is_defined x.definitions i ≡ false) d _ p f (list_any-append (λ x. x.index == i) d.definitions _ ∙ rw (f, unlike_swapped i k e) refl)
kept d p (Definition k j u) h e f = either (λ x. GaveNone x h) d _ p f f
kept d p (DualGuesses n) (DualGuesses m) e f = absurd cc
kept d p (DualGuesses n) h e f = f
kept d p (PrimalGuesses n) (PrimalGuesses m) e f = absurd cc
kept d p (PrimalGuesses n) h e f = f
kept d p Sides Sides e f = absurd cc
kept d p Sides h e f = f
kept d p Bounds Bounds e f = absurd cc
kept d p Bounds h e f = f
kept d p (ColumnCounts n) h e f = f
kept d p (Terms k m) (Terms i n) e f = get_or-set_other d.terms k i _ [] (eqb-false i k e) ∙ f
kept d p (Terms k m) h e f = f
kept d p (Slopes k m) (Slopes i n) e f = get_or-set_other d.slopes k i _ [] (eqb-false i k e) ∙ f
kept d p (Slopes k m) h e f = f
kept d p (Suffix k m) h e f = either (λ x. GaveNone x h) d _ p f f

none_at_first : (o : List ℤ) (c : Counts) (h : Head) → GaveNone (empty_draft o c) h
none_at_first o c (Body i) = none_given _ c.n_con i
none_at_first o c (Objective k m) = none_given _ c.n_obj k
none_at_first o c (Definition i j u) = refl
none_at_first o c (DualGuesses n) = refl
none_at_first o c (PrimalGuesses n) = refl
none_at_first o c Sides = refl
none_at_first o c Bounds = refl
none_at_first o c (Terms i n) = none_there _ c.n_con i
none_at_first o c (Slopes k n) = none_there _ c.n_obj k
none_at_first o c head = tt

pub gave_none : (o : List ℤ) (c : Counts) (pieces : List Piece) (h : Head) (name : List ℕ) → is_suffix h ≡ false → list_any (is_same_piece h name) pieces ≡ false → GaveNone (draft_of o c pieces) h
unfolding draft_of
gave_none o c pieces h name plain e =
    keeps (λ d. GaveNone d h) (is_same_piece h name) (λ d p s f. kept d p p.head h (unlike_head h name p plain s) f) pieces (empty_draft o c) e (none_at_first o c h)
