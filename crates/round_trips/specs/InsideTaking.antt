-- Lines of the body that are taken one after the other, each by the pieces before it.
use Rattle.std.specs.Prelude.{◌≡◌, ℕ, ◌+◌, ℤ, List, [], ◌∷◌, None}
use Rattle.text_base.specs.Judged.{first_reason}
use Rattle.nl_model.specs.declared.header_counts.Counts.{Counts}
use Rattle.nl_lines.specs.Rows.{NumberedRow}
use Rattle.nl_lines.specs.Pieces.{Piece, with_row}
use Rattle.nl_lines.specs.Saying.{draft_of}
use Rattle.nl_lines.specs.Tests.{row_tests}
use Rattle.text_base.specs.WordLines.{WordLine, spaced}
use Rattle.written_texts.specs.Words.{IsWritten}

-- the row of a written line, at the line of this number
abbrev pub row_at : ℕ → WordLine → NumberedRow
row_at n words = record { line = n; text = spaced words }

-- the rows of written lines, of which the first has the number n
abbrev pub rows_at : ℕ → List WordLine → List NumberedRow
rows_at n [] = []
rows_at n (words ∷ lines) = row_at n words ∷ rows_at (n + 1) lines

-- the lines are read as they are written, have no fault, and lead from these pieces to those
pub data IsTaken (o : List ℤ)
    (c : Counts) : List Piece → ℕ → List WordLine → List Piece → Type 0 where
  taken_none : {before : List Piece} {n : ℕ} → IsTaken o c before n [] before
  taken_line : {before after : List Piece} {n : ℕ} {words : WordLine} {lines : List WordLine}
      → IsWritten words → first_reason (row_tests c (draft_of o c before) before words) ≡ None
      → IsTaken o c (with_row c before (row_at n words)) (n + 1) lines after
      → IsTaken o c before n (words ∷ lines) after
