-- The rows of an .nl text: its lines that hold words, without their comments. The first ten are the
-- header, and the others are the body.
use Rattle.std.specs.Prelude.{ℕ, ◌+◌, ◌==◌, not, Bool, List, [], ◌∷◌, length, take, map, if◌then◌else◌}
use Rattle.text_base.specs.Words.{words_of, row_of, without_comment}

-- the number of the line in the text, counted from 1, and its text without the comment
pub record NumberedRow : Type 0 where
  pub line : ℕ
  pub text : List ℕ

-- the line holds a word outside its comment
abbrev pub holds_words : List ℕ → Bool
holds_words line = not (length (words_of (without_comment line)) == 0)

-- the rows of lines, of which the first has the number n
unfoldable pub rows_from : ℕ → List (List ℕ) → List NumberedRow
rows_from n [] = []
rows_from n (line ∷ lines) =
    if holds_words line
    then record { line = n; text = without_comment line } ∷ rows_from (n + 1) lines
    else rows_from (n + 1) lines

abbrev pub rows_of : List (List ℕ) → List NumberedRow
rows_of lines = rows_from 1 lines

-- the words of the header's rows
abbrev pub header_words : List NumberedRow → List (List (List ℕ))
header_words rows = map (λ r. words_of r.text) (take 10 rows)

-- the words of a row of the body; those past the twelfth never matter
abbrev pub row_words : NumberedRow → List (List ℕ)
row_words r = row_of r.text
