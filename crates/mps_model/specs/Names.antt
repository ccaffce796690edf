-- Lists of names, and names by a number.
use Rattle.std.specs.Prelude.{◌≡◌, ◌≢◌, ℕ, ◌^◌, ◌<◌, ◌==◌, Bool, false, ◌||◌, List, length, slice_index, position, Option, All, AllPairs}
use Rattle.std.specs.List.{range_with_len}
use Rattle.std.specs.Str.{bytes_eq}
use Rattle.text_base.specs.Names.{IsName}
pub use Rattle.text_base.specs.Names.{place_of}
use Rattle.mps_model.specs.Valid.{marker_word}

-- it begins with `@`, or is the word of marker lines
abbrev pub is_reserved : List ℕ → Bool
is_reserved name = (slice_index name 0 == 64) || bytes_eq name marker_word

-- names of a list: no two are the same, and none is reserved
pub record AreNames (names : List (List ℕ)) : Type 0 where
  pub few : length names < 2 ^ 32
  pub named : All IsName names
  pub apart : AllPairs (λ m n. m ≢ n) names
  pub free : All (λ n. is_reserved n ≡ false) names

-- the first of the numbers below n whose name is this text
unfoldable pub index_named : (ℕ → List ℕ) → ℕ → List ℕ → Option ℕ
index_named name n text = position (λ j. bytes_eq (name j) text) (range_with_len 0 n)
