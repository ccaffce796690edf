-- The suffixes of pieces that are all complete are those that came.
use Rattle.std.proofs.Common.{◌≡◌, ◌∙◌, ℕ, suc, true, false, ◌&&◌, ◌||◌, List, [], ◌∷◌, refl, sym, ap, arith}
use Rattle.std.specs.Prelude.{ℤ, All}
use Rattle.std.specs.List.{fold, list_any}
use Rattle.std.specs.Str.{bytes_eq}
use Rattle.std.proofs.Math.Bool.{or_assoc}
use Rattle.std.proofs.lemmas.List.Folds.{list_any-append}
use Rattle.nl_model.specs.declared.header_counts.Counts.{Counts}
use Rattle.nl_model.specs.Draft.{Draft, empty_draft}
use Rattle.nl_model.specs.Rules.{has_suffix, is_suffix_of}
use Rattle.nl_model.specs.SuffixKinds.{has_same_objects}
use Rattle.nl_model.proofs.ObjectLemmas.{same_objects-comm}
use Rattle.nl_lines.specs.declared.head.Head.{Head}
use Rattle.nl_lines.specs.declared.head.Head.TheVariants.{Body, Objective, Definition, Suffix}
use Rattle.nl_lines.specs.Pieces.{Piece, is_complete}
use Rattle.nl_lines.specs.Tests.{is_same_head, is_same_piece}
use Rattle.nl_lines.specs.Saying.{said_by, with_piece, draft_of}
use Rattle.nl_lines.proofs.DraftLemmas.{piece_counts}
use Rattle.nl_lines.proofs.FreshLaw.{either}
use Rattle.nl_lines.proofs.SeenLemmas.{or_false}

-- with a piece more that is complete
one_more : (kind n : ℕ) (name : List ℕ) (d : Draft) (p : Piece) (h : Head) → is_complete d.counts p ≡ true
    → has_suffix (said_by d p h).suffixes kind name ≡ (has_suffix d.suffixes kind name || (is_same_head (Suffix kind n) h && bytes_eq p.name name))
one_more kind n name d p (Body i) e = either (λ x. has_suffix x.suffixes kind name ≡ (has_suffix d.suffixes kind name || false)) d _ p (or_false _) (or_false _)
one_more kind n name d p (Objective k m) e = either (λ x. has_suffix x.suffixes kind name ≡ (has_suffix d.suffixes kind name || false)) d _ p (or_false _) (or_false _)
one_more kind n name d p (Definition i j u) e = either (λ x. has_suffix x.suffixes kind name ≡ (has_suffix d.suffixes kind name || false)) d _ p (or_false _) (or_false _)
one_more kind n name d p (Suffix k m) e =
    rw e (list_any-append (is_suffix_of kind name) d.suffixes _
    ∙ ap (λ b. has_suffix d.suffixes kind name || b) (sym (or_false (has_same_objects k kind && bytes_eq p.name name)) ∙ ap (λ b. b && bytes_eq p.name name) (same_objects-comm k kind)))
one_more kind n name d p h e = or_false (has_suffix d.suffixes kind name)

fold_suffixes : (c : Counts) (kind n : ℕ) (name : List ℕ) (pieces : List Piece) (d : Draft) → d.counts ≡ c → All (λ p. is_complete c p ≡ true) pieces
    → has_suffix (fold with_piece d pieces).suffixes kind name ≡ (has_suffix d.suffixes kind name || list_any (is_same_piece (Suffix kind n) name) pieces)
fold_suffixes c kind n name [] d same all = or_false (has_suffix d.suffixes kind name)
fold_suffixes c kind n name (p ∷ pieces) d same all =
    let first : is_complete d.counts p ≡ true = ap (λ k. is_complete k p) same ∙ all 0 p (omega arith) in
    fold_suffixes c kind n name pieces (with_piece d p) (piece_counts d p p.head ∙ same) (λ k x lt. all (suc k) x (omega (arith, lt)))
    ∙ ap (λ b. b || list_any (is_same_piece (Suffix kind n) name) pieces) (one_more kind n name d p p.head first)
    ∙ or_assoc (has_suffix d.suffixes kind name) (is_same_piece (Suffix kind n) name p) (list_any (is_same_piece (Suffix kind n) name) pieces)

pub suffixes_come : (o : List ℤ) (c : Counts) (kind n : ℕ) (name : List ℕ) (pieces : List Piece) → All (λ p. is_complete c p ≡ true) pieces
    → has_suffix (draft_of o c pieces).suffixes kind name ≡ list_any (is_same_piece (Suffix kind n) name) pieces
unfolding draft_of
suffixes_come o c kind n name pieces all = fold_suffixes c kind n name pieces (empty_draft o c) refl all
