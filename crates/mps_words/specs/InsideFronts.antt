-- Words at the front of a text, and the line that they are.
use Rattle.std.specs.Prelude.{◌≡◌, ℕ, List, [], ◌∷◌, ◌++◌, Some}
use Rattle.std.specs.List.{AllByRecursion}
use Rattle.text_base.specs.Names.{IsName}
use Rattle.exact_numbers.specs.Numbers.{dec_of}
use Rattle.exact_numbers.specs.declared.dec.Dec.{Dec}

-- these words, a space before each, and what follows
abbrev pub joined : List (List ℕ) → List ℕ → List ℕ
joined [] rest = rest
joined (word ∷ words) rest = 32 ∷ word ++ joined words rest

-- the data line of these words, its LF, and what follows
pub record IsLineOf (words : List (List ℕ)) (text rest : List ℕ) : Type 0 where
  pub parts : text ≡ joined words (10 ∷ rest)
  pub each : AllByRecursion IsName words

-- a number, LF, and what follows
pub record IsNumberText (text : List ℕ) (value : Dec) (rest : List ℕ) : Type 0 where
  pub word : List ℕ
  pub parts : text ≡ word ++ 10 ∷ rest
  pub is_word : IsName word
  pub says : dec_of word ≡ Some value

-- a name, a space, a number, LF, and what follows
pub record IsPairText (text name : List ℕ) (value : Dec) (rest : List ℕ) : Type 0 where
  pub number : List ℕ
  pub parts : text ≡ name ++ 32 ∷ number
  pub is_name : IsName name
  pub of_number : IsNumberText number value rest
