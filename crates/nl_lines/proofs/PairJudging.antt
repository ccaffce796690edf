-- A pair is judged by what is held as it is by the pieces.
use Rattle.std.proofs.Common.{◌≡◌, ◌∙◌, ℕ, ◌<◌, Bool, true, false, not, ◌&&◌, List, [], ◌∷◌, ◌++◌, refl, sym, ap, ap₂, Option, Some, None, get_or, nat_lt}
use Rattle.std.specs.Prelude.{unwrap_or, is_none}
use Rattle.std.proofs.lemmas.Bool.{ltb-true}
use Rattle.text_base.specs.Judged.{first_reason}
use Rattle.text_base.proofs.FirstReasons.{none_each, reason_before, reason_after, same_reasons}
use Rattle.exact_numbers.specs.declared.dec.Dec.{Dec}
use Rattle.nl_model.specs.declared.header_counts.Counts.{Counts}
use Rattle.nl_model.specs.File.{Term}
use Rattle.nl_lines.specs.declared.fault.NlReason.TheVariants.{TooLarge, RepeatedIndex}
use Rattle.nl_lines.specs.declared.fault.NlReason.{NlReason}
use Rattle.nl_lines.specs.declared.head.Head.{Head}
use Rattle.exact_numbers.specs.Numbers.{dec_of, whole_of}
use Rattle.text_base.specs.Words.{word_at}
use Rattle.nl_lines.specs.Pieces.{Piece, pair_in, piece_pairs}
use Rattle.nl_lines.specs.Tests.{Tests, has_index, holds_once, index_limit, is_some_below, is_full, pair_form_tests, pair_tests, wants_whole_values}
use Rattle.nl_lines.specs.PairTests.{next_pair_tests, IsMarked}

-- ---- reading a pair

pub index_of : (words : List (List ℕ)) (t : Term) → pair_in words ≡ Some t → whole_of (word_at words 0) ≡ Some t.0
unfolding pair_in
index_of words t e = by (whole_of (word_at words 0)) (dec_of (word_at words 1)) refl refl
  where
    by : (i : Option ℕ) (d : Option Dec) → whole_of (word_at words 0) ≡ i → dec_of (word_at words 1) ≡ d → whole_of (word_at words 0) ≡ Some t.0
    by None d p q = absurd (let none : None ≡ Some t = rw p at e in cc)
    by (Some i) None p q = absurd (let none : None ≡ Some t = rw (p, q) at e in cc)
    by (Some i) (Some d) p q = let same : Some (i, d) ≡ Some t = rw (p, q) at e in p ∙ ap (λ (o : Option Term). Some (unwrap_or {T = Term} o (i, d)).0) same

abbrev last_tests : Bool → Bool → Tests
last_tests repeated full = (repeated, RepeatedIndex) ∷ (full, TooLarge) ∷ []

module _ (c : Counts) (head : Head) (marks : List Bool) (full : Bool) (words : List (List ℕ)) (limit : ℕ) (whole : Bool)
    (limit_is : limit ≡ index_limit c head) (whole_is : whole ≡ wants_whole_values head) where
  abbrev form : Tests
  form = pair_form_tests limit whole words

  abbrev next : Tests
  next = next_pair_tests c head marks full words

  next_is : next ≡ form ++ last_tests (holds_once head && get_or marks (unwrap_or (whole_of (word_at words 0)) 0) false) full
  next_is = ap₂ (λ l w. pair_form_tests l w words ++ last_tests (holds_once head && get_or marks (unwrap_or (whole_of (word_at words 0)) 0) false) full) (sym limit_is) (sym whole_is)

  pub read_fault : (r : NlReason) → first_reason form ≡ Some r → first_reason next ≡ Some r
  read_fault r e = ap first_reason next_is ∙ reason_before form _ r e

  read_passed : (t : Term) → first_reason form ≡ None → pair_in words ≡ Some t → first_reason next ≡ first_reason (last_tests (holds_once head && get_or marks t.0 false) full)
  read_passed t e p =
      ap first_reason next_is ∙ reason_after form _ e ∙ ap (λ o. first_reason (last_tests (holds_once head && get_or marks (unwrap_or o 0) false) full)) (index_of words t p)

  pub read_repeated : (t : Term) → first_reason form ≡ None → pair_in words ≡ Some t → (holds_once head && get_or marks t.0 false) ≡ true → first_reason next ≡ Some RepeatedIndex
  read_repeated t e p r = read_passed t e p ∙ ap (λ b. first_reason (last_tests b full)) r

  pub read_full : (t : Term) → first_reason form ≡ None → pair_in words ≡ Some t → (holds_once head && get_or marks t.0 false) ≡ false → full ≡ true → first_reason next ≡ Some TooLarge
  read_full t e p r f = read_passed t e p ∙ ap₂ (λ b f. first_reason (last_tests b f)) r f

  pub read_fine : (t : Term) → first_reason form ≡ None → pair_in words ≡ Some t → (holds_once head && get_or marks t.0 false) ≡ false → full ≡ false → first_reason next ≡ None
  read_fine t e p r f = read_passed t e p ∙ ap₂ (λ b f. first_reason (last_tests b f)) r f

-- ---- the tests by the pieces

pub record IsIndex (limit : ℕ) (o : Option ℕ) : Type 0 where
  pub index : ℕ
  pub is : o ≡ Some index
  pub below : index < limit

pub below_limit : (limit : ℕ) (o : Option ℕ) → not (is_some_below limit o) ≡ false → IsIndex limit o
below_limit limit None e = absurd cc
below_limit limit (Some i) e = by (nat_lt i limit) refl
  where
    by : (b : Bool) → nat_lt i limit ≡ b → IsIndex limit (Some i)
    by true t = record { index = i; is = refl; below = ltb-true i limit t }
    by false t = absurd (let clash : true ≡ false = rw t at e in cc)

-- the pair that a line without a fault says
pub record IsPair (limit : ℕ) (words : List (List ℕ)) : Type 0 where
  pub term : Term
  pub says : pair_in words ≡ Some term
  pub below : term.0 < limit

pub pair_found : (limit : ℕ) (whole : Bool) (words : List (List ℕ)) → first_reason (pair_form_tests limit whole words) ≡ None → IsPair limit words
unfolding pair_form_tests pair_in
pair_found limit whole words e =
    let none = none_each (pair_form_tests limit whole words) e in
    by (below_limit limit (whole_of (word_at words 0)) none.1.0) (dec_of (word_at words 1)) refl none.1.1.0
  where
    by : IsIndex limit (whole_of (word_at words 0)) → (o : Option Dec) → dec_of (word_at words 1) ≡ o → is_none o ≡ false → IsPair limit words
    by i None q f = absurd cc
    by i (Some d) q f = record { term = (i.index, d); says = rw (i.is, q) refl; below = i.below }

same_mark : (c : Counts) (marks : List Bool) (p : Piece) (i : ℕ) → IsMarked c marks p → i < index_limit c p.head
    → (holds_once p.head && has_index (piece_pairs p) i) ≡ (holds_once p.head && get_or marks i false)
same_mark c marks p i h lt = by (holds_once p.head) refl
  where
    by : (b : Bool) → holds_once p.head ≡ b → (holds_once p.head && has_index (piece_pairs p) i) ≡ (holds_once p.head && get_or marks i false)
    by true e = ap (λ b. holds_once p.head && b) (sym (h e i lt))
    by false e = rw e refl

pub same_pair_tests : (c : Counts) (pieces : List Piece) (p : Piece) (words : List (List ℕ)) (marks : List Bool) (full : Bool) → IsMarked c marks p → full ≡ is_full pieces p.head
    → first_reason (pair_tests c pieces p words) ≡ first_reason (next_pair_tests c p.head marks full words)
unfolding pair_tests
same_pair_tests c pieces p words marks full h full_is =
    let form = pair_form_tests (index_limit c p.head) (wants_whole_values p.head) words in
    let at : ℕ = unwrap_or (whole_of (word_at words 0)) 0 in
    same_reasons form form (last_tests (holds_once p.head && has_index (piece_pairs p) at) (is_full pieces p.head)) (last_tests (holds_once p.head && get_or marks at false) full) refl
    (λ e.
    let i = pair_found (index_limit c p.head) (wants_whole_values p.head) words e in
    let at_is : at ≡ i.term.0 = ap (λ o. unwrap_or o 0) (index_of words i.term i.says) in
    let same : (holds_once p.head && has_index (piece_pairs p) at) ≡ (holds_once p.head && get_or marks at false) =
    ap (λ k. holds_once p.head && has_index (piece_pairs p) k) at_is ∙ same_mark c marks p i.term.0 h i.below ∙ ap (λ k. holds_once p.head && get_or marks k false) (sym at_is) in
    ap₂ (λ b f. first_reason (last_tests b f)) same (sym full_is))
