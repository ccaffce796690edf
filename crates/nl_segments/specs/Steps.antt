-- What one line more does to what lines mean.
use Rattle.std.specs.Prelude.{ℕ, List, [], ◌∷◌, ◌++◌, if◌then◌else◌}
use Rattle.text_base.specs.Words.{words_of, without_comment}
use Rattle.nl_lines.specs.Rows.{NumberedRow, holds_words}
use Rattle.nl_lines.specs.Pieces.{with_row}
use Rattle.nl_segments.specs.Grammar.{Standing, is_in_header, counts_of}

-- a row of the header, and a row of the body
abbrev pub after_header_row : Standing → NumberedRow → Standing
after_header_row s row = record s { header = s.header ++ words_of row.text ∷ [] }

abbrev pub after_body_row : Standing → NumberedRow → Standing
after_body_row s row = record s { pieces = with_row (counts_of s) s.pieces row }

abbrev pub after_row : Standing → NumberedRow → Standing
after_row s row = if is_in_header s then after_header_row s row else after_body_row s row

-- the line of this number, which may hold no word
abbrev pub after : Standing → ℕ → List ℕ → Standing
after s number line =
    if holds_words line
    then after_row s (record { line = number; text = without_comment line })
    else s
