-- A line that a text begins with.
use Rattle.std.specs.Prelude.{ℕ, List, [], ◌∷◌}
use Rattle.text_base.specs.Fronts.{IsFront}
use Rattle.text_base.specs.Words.{row_of, without_comment}

-- the text begins with a line, which has so many bytes with the LF behind it, and this holds of the
-- line's words
pub record IsFirstRow (text : List ℕ) (len : ℕ) (says : List (List ℕ) → Type 0) : Type 0 where
  pub line : List ℕ
  pub first : IsFront text (record { len = len; lines = 1 }) (line ∷ [])
  pub row : says (row_of (without_comment line))
