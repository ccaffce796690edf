-- A row that is a whole number alone.
use Rattle.std.specs.Prelude.{◌≡◌, ℕ, List, length, Some}
use Rattle.exact_numbers.specs.Numbers.{whole_of}
use Rattle.text_base.specs.Words.{word_at}

pub record IsWholeRow (words : List (List ℕ)) (n : ℕ) : Type 0 where
  pub one : length words ≡ 1
  pub says : whole_of (word_at words 0) ≡ Some n
