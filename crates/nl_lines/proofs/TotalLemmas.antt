-- How much there is in all pieces, with a row more in the last.
use Rattle.std.proofs.Common.{◌≡◌, ◌∙◌, ◌+◌, Bool, true, false, List, [], ◌∷◌, ◌++◌, length, filter, sum_by, refl, ap, arith}
use Rattle.std.proofs.lemmas.List.{append-nil}
use Rattle.std.proofs.lemmas.List.Sums.{sum_by-append}
use Rattle.std.proofs.lemmas.List.Elements.{filter-append}
use Rattle.nl_model.specs.declared.header_counts.Counts.{Counts}
use Rattle.nl_lines.specs.declared.head.Head.{Head}
use Rattle.nl_lines.specs.Pieces.{Piece, piece_nodes, piece_pairs}
use Rattle.nl_lines.specs.Tests.{node_total, pair_total}

-- the total of the last piece and of those before it
pub nodes-append : (c : Counts) (before : List Piece) (p : Piece) → node_total c (before ++ p ∷ []) ≡ node_total c before + length (piece_nodes c p)
nodes-append c before p = sum_by-append (λ p. length (piece_nodes c p)) before (p ∷ []) ∙ omega arith

pub pairs-append : (counts : Head → Bool) (before : List Piece) (p : Piece) → counts p.head ≡ true → pair_total counts (before ++ p ∷ []) ≡ pair_total counts before + length (piece_pairs p)
pairs-append counts before p t =
    let kept : filter (λ p. counts p.head) (before ++ p ∷ []) ≡ filter (λ p. counts p.head) before ++ p ∷ [] = filter-append (λ p. counts p.head) before (p ∷ []) ∙ rw t refl in
    ap (sum_by (λ p. length (piece_pairs p))) kept
    ∙ sum_by-append (λ p. length (piece_pairs p)) (filter (λ p. counts p.head) before) (p ∷ []) ∙ omega arith

pub pairs-other : (counts : Head → Bool) (before : List Piece) (p : Piece) → counts p.head ≡ false → pair_total counts (before ++ p ∷ []) ≡ pair_total counts before
pairs-other counts before p f =
    let kept : filter (λ p. counts p.head) (before ++ p ∷ []) ≡ filter (λ p. counts p.head) before =
    filter-append (λ p. counts p.head) before (p ∷ []) ∙ rw f (append-nil (filter (λ p. counts p.head) before)) in
    ap (sum_by (λ p. length (piece_pairs p))) kept
