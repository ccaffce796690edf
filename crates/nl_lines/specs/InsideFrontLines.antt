-- Words of a line that a text begins with, one after the other.
use Rattle.std.specs.Prelude.{◌≡◌, ℕ, ◌+◌, ◌*◌, ◌<◌, ◌≤◌, ◌==◌, false, List, [], ◌∷◌, ◌++◌, length}
use Rattle.text_base.specs.Cut.{HasNoEnd}
use Rattle.text_base.specs.Words.{IsUnmarked, words_of, without_comment}

-- the text begins with a word of at most so many bytes, of which this holds, and then this byte
pub record IsWordBefore (most byte : ℕ) (text : List ℕ) (len : ℕ)
    (says : List ℕ → Type 0) : Type 0 where
  pub word : List ℕ
  pub more : List ℕ
  pub parts : text ≡ word ++ byte ∷ more
  pub size : len ≡ length word + 1
  pub some : 0 < length word
  pub few : length word ≤ most
  pub unmarked : IsUnmarked word
  pub holds : says word

-- a line of these words, without a comment, that does not end with CR
pub record IsLineOf (words : List (List ℕ)) (line : List ℕ) : Type 0 where
  pub front : List ℕ
  pub last : ℕ
  pub ends : line ≡ front ++ last ∷ []
  pub no_cr : (last == 13) ≡ false
  pub no_end : HasNoEnd line
  pub whole : without_comment line ≡ line
  pub words_are : words_of line ≡ words

-- the text begins with a line of words of at most 41 bytes, of which this holds, and its LF
pub record IsFrontRow (text : List ℕ) (len : ℕ) (says : List (List ℕ) → Type 0) : Type 0 where
  pub words : List (List ℕ)
  pub line : List ℕ
  pub more : List ℕ
  pub parts : text ≡ line ++ 10 ∷ more
  pub size : len ≡ length line + 1
  pub short : length line ≤ 42 * length words
  pub is : IsLineOf words line
  pub holds : says words
