-- What a piece without rows says.
use Rattle.std.proofs.Common.{◌≡◌, ◌∙◌, ℕ, zero, suc, Bool, true, false, ◌||◌, List, [], ◌∷◌, ◌++◌, length, refl, sym, ap, arith, nat_lt, get_or, slice_set, None, ◌+◌, replicate}
use Rattle.std.specs.Prelude.{ℤ, not, if◌then◌else◌}
use Rattle.std.proofs.lemmas.Bool.{lt-ltb}
use Rattle.std.proofs.lemmas.List.{append-nil, set-get_or}
use Rattle.std.proofs.lemmas.Grind.{flat_map-append}
use Rattle.nl_model.specs.declared.header_counts.Counts.{Counts}
use Rattle.nl_model.specs.Draft.{Draft}
use Rattle.nl_lines.specs.declared.head.Head.{Head}
use Rattle.nl_lines.specs.declared.head.Head.TheVariants.{Body, Objective, Definition, DualGuesses, PrimalGuesses, Sides, Bounds, ColumnCounts, Terms, Slopes, Suffix}
use Rattle.nl_lines.specs.Nodes.{nodes_from, pending_from}
use Rattle.nl_lines.specs.Pieces.{Piece, awaited_in, is_nothing, is_complete, line_kind, line_count, has_tree, pair_count, piece_nodes, piece_pairs, piece_pending}
use Rattle.nl_lines.specs.Saying.{if_complete, said_by, draft_of}
use Rattle.nl_lines.specs.Tests.{node_total, pair_total, suffix_count, all_column_counts, column_counts, is_suffix}
use Rattle.nl_segments.specs.InsideHeadSteps.{begun_draft, begun_count}
use Rattle.nl_lines.proofs.PieceLemmas.{draft-append, some_are, take_none}
use Rattle.nl_lines.proofs.TotalLemmas.{nodes-append}
use Rattle.nl_segments.proofs.PairLines.{pairs_with, suffixes_with}
use Rattle.nl_segments.proofs.CurrentLemmas.{no_rows}

abbrev pub new_piece : Head → List ℕ → ℕ → Piece
new_piece head name line = record { head = head; name = name; line = line; rows = [] }

pub no_pairs : (head : Head) (name : List ℕ) (line : ℕ) → piece_pairs (new_piece head name line) ≡ []
no_pairs head name line = rw (take_none (pair_count head)) refl

pub no_nodes : (c : Counts) (head : Head) (name : List ℕ) (line : ℕ) → piece_nodes c (new_piece head name line) ≡ []
unfolding nodes_from
no_nodes c head name line = ap (nodes_from c.n_var None) (no_rows head name line)

no_pending : (head : Head) (name : List ℕ) (line : ℕ) → piece_pending (new_piece head name line) ≡ None
unfolding pending_from
no_pending head name line = ap (pending_from None) (no_rows head name line)

pub always : {A : Type 0} (n j : ℕ) (x : A) → get_or (replicate n x) j x ≡ x
always zero j x = refl
always (suc n) zero x = refl
always (suc n) (suc j) x = always n j x

-- ---- whether it is complete

pub some_line : (head : Head) → is_nothing (line_kind head) ≡ false
some_line (Body i) = refl
some_line head = refl

pub whole_at_once : (c : Counts) (head : Head) (name : List ℕ) (line : ℕ) → is_complete c (new_piece head name line) ≡ not (has_tree head || nat_lt 0 (line_count c head))
unfolding awaited_in
whole_at_once c head name line = by (nat_lt 0 (line_count c head)) (has_tree head) refl refl
  where
    by : (l t : Bool) → nat_lt 0 (line_count c head) ≡ l → has_tree head ≡ t → is_complete c (new_piece head name line) ≡ not (has_tree head || nat_lt 0 (line_count c head))
    by true true e f = rw (e, f) (some_line head)
    by true false e f = rw (e, f) (some_line head)
    by false true e f = rw (e, no_nodes c head name line, no_pending head name line, f) refl
    by false false e f = rw (e, f) refl

-- ---- what it says

by_complete : (d more : Draft) (p : Piece) (b : Bool) → is_complete d.counts p ≡ b → if_complete d p more ≡ (if b then more else d)
by_complete d more p b e = rw e refl

some_left : (n : ℕ) → not (nat_lt 0 (suc n)) ≡ false
some_left n = ap not (lt-ltb 0 (suc n) (omega arith))

pub said_begun : (d : Draft) (head : Head) (name : List ℕ) (line : ℕ) → said_by d (new_piece head name line) head ≡ begun_draft d head name
said_begun d (Body k) name line = by_complete d _ (new_piece (Body k) name line) false (whole_at_once d.counts (Body k) name line)
said_begun d (Objective k m) name line = by_complete d _ (new_piece (Objective k m) name line) false (whole_at_once d.counts (Objective k m) name line)
said_begun d (Definition k j u) name line = by_complete d _ (new_piece (Definition k j u) name line) false (whole_at_once d.counts (Definition k j u) name line)
said_begun d (DualGuesses n) name line = let q = ap (λ ts. d.dual_guesses ++ ts) (no_pairs (DualGuesses n) name line) ∙ append-nil d.dual_guesses in λ i. record d { dual_guesses = q i }
said_begun d (PrimalGuesses n) name line = let q = ap (λ ts. d.primal_guesses ++ ts) (no_pairs (PrimalGuesses n) name line) ∙ append-nil d.primal_guesses in λ i. record d { primal_guesses = q i }
said_begun d Sides name line = let q = append-nil d.sides in λ i. record d { sides = q i }
said_begun d Bounds name line = let q = append-nil d.bounds in λ i. record d { bounds = q i }
said_begun d (ColumnCounts n) name line = refl
said_begun d (Terms k n) name line =
    let q = ap (λ ts. slice_set d.terms k (get_or d.terms k [] ++ ts)) (no_pairs (Terms k n) name line) ∙ ap (slice_set d.terms k) (append-nil (get_or d.terms k [])) ∙ set-get_or d.terms k [] in
    λ i. record d { terms = q i }
said_begun d (Slopes k n) name line =
    let q = ap (λ ts. slice_set d.slopes k (get_or d.slopes k [] ++ ts)) (no_pairs (Slopes k n) name line) ∙ ap (slice_set d.slopes k) (append-nil (get_or d.slopes k [])) ∙ set-get_or d.slopes k [] in
    λ i. record d { slopes = q i }
said_begun d (Suffix k zero) name line = by_complete d _ (new_piece (Suffix k zero) name line) true (whole_at_once d.counts (Suffix k zero) name line)
said_begun d (Suffix k (suc n)) name line =
    by_complete d _ (new_piece (Suffix k (suc n)) name line) false (whole_at_once d.counts (Suffix k (suc n)) name line ∙ some_left n)
    ∙ ap (λ b. if b then record d { suffixes = d.suffixes ++ record { kind = k; name = name; values = [] } ∷ [] } else d) (sym (some_are n))

pub draft_begun : (o : List ℤ) (c : Counts) (pieces : List Piece) (head : Head) (name : List ℕ) (line : ℕ)
    → draft_of o c (pieces ++ new_piece head name line ∷ []) ≡ begun_draft (draft_of o c pieces) head name
draft_begun o c pieces head name line = draft-append o c pieces (new_piece head name line) ∙ said_begun (draft_of o c pieces) head name line

-- terms of constraints stay
pub terms_begun : (d : Draft) (head : Head) (name : List ℕ) → (begun_draft d head name).terms ≡ d.terms
terms_begun d (Suffix k zero) name = refl
terms_begun d (Suffix k (suc n)) name = ap (λ b. (if b then record d { suffixes = d.suffixes ++ record { kind = k; name = name; values = [] } ∷ [] } else d).terms) (some_are n)
terms_begun d head name = refl

-- ---- how much there is

pub nodes_begun : (c : Counts) (pieces : List Piece) (head : Head) (name : List ℕ) (line : ℕ) → node_total c pieces ≡ node_total c (pieces ++ new_piece head name line ∷ [])
nodes_begun c pieces head name line =
    let few = ap (λ ns. length ns) (no_nodes c head name line) in
    let more = nodes-append c pieces (new_piece head name line) in
    omega (arith, few, more)

pub pairs_begun : (counts : Head → Bool) (pieces : List Piece) (head : Head) (name : List ℕ) (line : ℕ) → pair_total counts pieces ≡ pair_total counts (pieces ++ new_piece head name line ∷ [])
pairs_begun counts pieces head name line = by (counts head)
    (pairs_with counts pieces (new_piece head name line) ∙ ap
    (λ ts. pair_total counts pieces + (if counts head then length ts else 0)) (no_pairs head name line))
  where
    by : (t : Bool) → pair_total counts (pieces ++ new_piece head name line ∷ [])
        ≡ pair_total counts pieces + (if t then 0 else 0) → pair_total counts pieces
        ≡ pair_total counts (pieces ++ new_piece head name line ∷ [])
    by true e = omega (arith, e)
    by false e = omega (arith, e)

pub count_begun : (pieces : List Piece) (head : Head) (name : List ℕ) (line : ℕ) → begun_count head (suffix_count pieces) ≡ suffix_count (pieces ++ new_piece head name line ∷ [])
count_begun pieces head name line = by (is_suffix head) ∙ sym (suffixes_with pieces (new_piece head name line))
  where
    by : (t : Bool) → (if t then suffix_count pieces + 1 else suffix_count pieces) ≡ suffix_count pieces + (if t then 1 else 0)
    by true = refl
    by false = omega arith

no_columns : (head : Head) (name : List ℕ) (line : ℕ) → column_counts (new_piece head name line) head ≡ []
no_columns (Body i) name line = refl
no_columns head name line = refl

pub columns_begun : (pieces : List Piece) (head : Head) (name : List ℕ) (line : ℕ) → all_column_counts pieces ≡ all_column_counts (pieces ++ new_piece head name line ∷ [])
columns_begun pieces head name line =
    sym (flat_map-append (λ p. column_counts p p.head) pieces (new_piece head name line ∷ [])
    ∙ ap (λ ns. all_column_counts pieces ++ (ns ++ [])) (no_columns head name line)
    ∙ append-nil (all_column_counts pieces))
