-- A row of an expression that is a letter and a number alone (Gay 2005, "Writing .nl Files",
-- expressions).
use Rattle.std.specs.Prelude.{◌≡◌, ℕ, List, length, Some}
use Rattle.exact_numbers.specs.Numbers.{dec_of}
use Rattle.nl_lines.specs.declared.leaf.Leaf.{Leaf}
use Rattle.nl_lines.specs.declared.leaf.Leaf.TheVariants.{Number, Variable, Opcode}
use Rattle.nl_lines.specs.Heads.{letter_of, own_number}
use Rattle.nl_lines.specs.Nodes.{leaf_text}

-- one word, which begins with this letter
pub record IsWordOf (letter : ℕ) (words : List (List ℕ)) : Type 0 where
  pub one : length words ≡ 1
  pub first : letter_of words ≡ letter

-- `n` and a number, `v` and an index, or `o` and an opcode
abbrev pub IsLeafRow : List (List ℕ) → Leaf → Type 0
IsLeafRow words (Number d) = IsWordOf 110 words × (dec_of (leaf_text words) ≡ Some d)
IsLeafRow words (Variable i) = IsWordOf 118 words × (own_number words ≡ Some i)
IsLeafRow words (Opcode o) = IsWordOf 111 words × (own_number words ≡ Some o)
