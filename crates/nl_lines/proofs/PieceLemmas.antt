-- The pieces as those before the last, and the last.
use Rattle.std.proofs.Common.{◌≡◌, ℕ, suc, ◌==◌, false, List, [], ◌∷◌, ◌++◌, take, drop, refl, ap, arith, Some}
use Rattle.std.proofs.lemmas.List.{drop_all, take_all}
use Rattle.std.specs.Prelude.{ℤ, unwrap_or}
use Rattle.std.proofs.lemmas.List.Sums.{fold-append}
use Rattle.nl_model.specs.declared.header_counts.Counts.{Counts}
use Rattle.nl_model.specs.Draft.{empty_draft}
use Rattle.nl_lines.specs.Rows.{NumberedRow}
use Rattle.nl_lines.specs.Pieces.{Piece, extended, last_piece}
use Rattle.nl_lines.specs.Saying.{with_piece, draft_of, more_lines, place_lines, empty_lines}

-- the pieces before the last one
pub record Split (pieces : List Piece) (p : Piece) : Type 0 where
  pub before : List Piece
  pub whole : pieces ≡ before ++ p ∷ []

one_more : (q : Piece) (pieces : List Piece) (p : Piece) → Split pieces p → Split (q ∷ pieces) p
one_more q pieces p s = record { before = q ∷ s.before; whole = ap (λ ps. q ∷ ps) s.whole }

pub split : (pieces : List Piece) (p : Piece) → last_piece pieces ≡ Some p → Split pieces p
unfolding last_piece
split [] p e = absurd cc
split (q ∷ []) p e = record { before = []; whole = ap (λ o. unwrap_or o q ∷ []) e }
split (q ∷ r ∷ pieces) p e = one_more q (r ∷ pieces) p (split (r ∷ pieces) p e)

pub last-append : (before : List Piece) (p : Piece) → last_piece (before ++ p ∷ []) ≡ Some p
unfolding last_piece
last-append [] p = refl
last-append (q ∷ []) p = refl
last-append (q ∷ r ∷ before) p = last-append (r ∷ before) p

-- with a row more
abbrev pub longer : Piece → NumberedRow → Piece
longer p row = record p { rows = p.rows ++ row ∷ [] }

pub extended-append : (before : List Piece) (p : Piece) (row : NumberedRow) → extended (before ++ p ∷ []) row ≡ before ++ longer p row ∷ []
unfolding extended
extended-append [] p row = refl
extended-append (q ∷ []) p row = refl
extended-append (q ∷ r ∷ before) p row = ap (λ ps. q ∷ ps) (extended-append (r ∷ before) p row)

-- of no rows none are taken, and none are left
pub take_none : (n : ℕ) → take {A = NumberedRow} n [] ≡ []
take_none n = take_all n [] (omega arith)

pub drop_none : (n : ℕ) → drop {A = NumberedRow} n [] ≡ []
drop_none n = drop_all n [] (omega arith)

pub some_are : (n : ℕ) → (suc n == 0) ≡ false
some_are n = grind arith

-- ---- what is said

pub draft-append : (options : List ℤ) (c : Counts) (before : List Piece) (p : Piece) → draft_of options c (before ++ p ∷ []) ≡ with_piece (draft_of options c before) p
unfolding draft_of
draft-append options c before p = fold-append with_piece (empty_draft options c) before (p ∷ [])

pub lines-append : (c : Counts) (before : List Piece) (p : Piece) → place_lines c (before ++ p ∷ []) ≡ more_lines c (place_lines c before) p p.head
unfolding place_lines
lines-append c before p = fold-append (λ l p. more_lines c l p p.head) (empty_lines c) before (p ∷ [])
