-- By which tests a pair is judged: by its words, or by itself where a row is an index and a value
-- alone, and by the marks of the indices that came.
use Rattle.std.specs.Prelude.{◌≡◌, ℕ, ◌<◌, ◌++◌, ◌∷◌, [], Bool, false, IsTrue, not, ◌&&◌, ◌||◌, nat_le, nat_lt, List, length, Some, unwrap_or, get_or}
use Rattle.nl_model.specs.declared.header_counts.Counts.{Counts}
use Rattle.nl_model.specs.File.{Term}
use Rattle.nl_model.specs.Rules.{most_terms}
use Rattle.nl_lines.specs.declared.fault.NlReason.TheVariants.{BadNumber, IndexOut, RepeatedIndex, TooLarge}
use Rattle.nl_lines.specs.declared.head.Head.{Head}
use Rattle.exact_numbers.specs.Numbers.{whole_of, is_whole}
use Rattle.text_base.specs.Words.{word_at}
use Rattle.nl_lines.specs.Pieces.{Piece, pair_in, piece_pairs}
use Rattle.nl_lines.specs.Tests.{Tests, has_index, holds_once, index_limit, is_linear, is_suffix, pair_form_tests, wants_whole_values}

-- the indices of a piece are marked, where they come once
abbrev pub IsMarked : Counts → List Bool → Piece → Type 0
IsMarked c marks p = IsTrue (holds_once p.head) → (i : ℕ) → i < index_limit c p.head
    → get_or marks i false ≡ has_index (piece_pairs p) i

-- no more pairs may come, where so many linear terms and values of suffixes came
abbrev pub is_full_at : Head → ℕ → ℕ → Bool
is_full_at head linear values =
    (is_linear head && nat_le most_terms linear) || (is_suffix head && nat_le most_terms values)

-- the tests of a pair by the marks of the indices that came
abbrev pub next_pair_tests : Counts → Head → List Bool → Bool → List (List ℕ) → Tests
next_pair_tests c head marks full words =
    pair_form_tests (index_limit c head) (wants_whole_values head) words
    ++ (
      holds_once head
          && get_or marks (unwrap_or (whole_of (word_at words 0)) 0) false,
      RepeatedIndex,
    )
    ∷ (full, TooLarge) ∷ []

-- the pair of the next line: its index is in range, and did not come where it comes once, and there
-- is room for it
pub record SaysFreshPair (c : Counts) (head : Head) (marks : List Bool) (full : Bool)
    (words : List (List ℕ)) (t : Term) : Type 0 where
  pub says : pair_in words ≡ Some t
  pub below : t.0 < index_limit c head
  pub fresh : (holds_once head && get_or marks t.0 false) ≡ false
  pub room : full ≡ false

-- ---- A row that is an index and a value alone.

-- two words, an index and a value, which are this pair
pub record IsPairRow (words : List (List ℕ)) (t : Term) : Type 0 where
  pub two : length words ≡ 2
  pub says : pair_in words ≡ Some t

-- what is wrong with the pair of such a row
abbrev pub known_pair_tests : Counts → Head → List Bool → Bool → Term → Tests
known_pair_tests c head marks full t =
    (not (nat_lt t.0 (index_limit c head)), IndexOut)
    ∷ (wants_whole_values head && not (is_whole t.1), BadNumber)
    ∷ (holds_once head && get_or marks t.0 false, RepeatedIndex)
    ∷ (full, TooLarge) ∷ []
