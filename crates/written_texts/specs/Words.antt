-- Words and lines that are read as themselves.
use Rattle.std.specs.Prelude.{◌≡◌, ℕ, ◌<◌, ◌≤◌, ◌==◌, false, true, List, length, slice_index}
use Rattle.std.specs.List.{AllByRecursion}
use Rattle.text_base.specs.Names.{has_name_bytes}
use Rattle.text_base.specs.WordLines.{WordLine, spaced}

-- some bytes, none of which is a blank or ends a line
pub record IsWord (word : List ℕ) : Type 0 where
  pub some : 0 < length word
  pub bytes : has_name_bytes word ≡ true

-- without a `#` in front, which would begin a comment
pub record IsKeptWord (word : List ℕ) : Type 0 where
  pub is : IsWord word
  pub front : (slice_index word 0 == 35) ≡ false

-- a line of one to twelve words and without a comment
pub record IsWritten (words : WordLine) : Type 0 where
  pub some : 0 < length words
  pub few : length words ≤ 12
  pub each : AllByRecursion IsKeptWord words

-- a line within the limit of lines; words may be empty
pub record IsWordLine (words : WordLine) : Type 0 where
  pub bytes : AllByRecursion (λ word. has_name_bytes word ≡ true) words
  pub short : length (spaced words) ≤ 65536
