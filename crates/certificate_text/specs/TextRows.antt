-- The rows of a text, and the first words by which they are told apart.
use Rattle.std.specs.Prelude.{ℕ, Bool, ◌==◌, ◌&&◌, List, [], ◌∷◌, length, codes, if◌then◌else◌}
use Rattle.std.specs.List.{flat_map}
use Rattle.std.specs.Str.{bytes_eq}
use Rattle.text_base.specs.Words.{begins, row_of, word_at}

-- the words of a line
abbrev pub TextRow : Type 0
TextRow = List (List ℕ)

-- the rows of the lines that have a word
abbrev pub line_rows : List ℕ → List TextRow
line_rows line = if length (row_of line) == 0 then [] else row_of line ∷ []

unfoldable pub rows_in : List (List ℕ) → List TextRow
rows_in lines = flat_map line_rows lines

-- the first word, and how many words there are
abbrev pub is_row : List ℕ → ℕ → TextRow → Bool
is_row first count words = begins words first && (length words == count)

-- the first row of a text of this format, of which there is version 1
abbrev pub is_first_row : List ℕ → TextRow → Bool
is_first_row format words =
    (length words == 2)
    && bytes_eq (word_at words 0) format && bytes_eq (word_at words 1) (codes "1")
