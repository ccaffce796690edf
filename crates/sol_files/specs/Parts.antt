-- The parts of a .sol text: the message, the rows of numbers after the line `Options`, and a piece
-- for each suffix.
use Rattle.std.specs.Prelude.{ℕ, ◌+◌, ◌-◌, ◌==◌, Bool, true, false, not, ◌&&◌, List, [], ◌∷◌, ◌++◌, length, Option, slice_get, slice_index_or, if◌then◌else◌, codes}
use Rattle.std.specs.List.{fold, before_first, after_first, list_any}
use Rattle.std.specs.Option.{option_map_or}
use Rattle.std.specs.Str.{bytes_eq}
use Rattle.text_base.specs.Words.{row_of, begins}
use Rattle.sol_files.specs.Plan.{LineKind, NameLine, TableLine, Tail, row_plan, suffix_plan, next_in}
use Rattle.sol_files.specs.Rows.{Row, number_in, value_size, table_size}

-- ---- The message: the lines before the first line that is exactly `Options`.

abbrev pub is_options : List ℕ → Bool
is_options line = bytes_eq line (codes "Options")

abbrev pub is_in_message : List (List ℕ) → Bool
is_in_message lines = not (list_any is_options lines)

abbrev pub message_lines : List (List ℕ) → List (List ℕ)
message_lines lines = before_first is_options lines

-- the last line is empty
unfoldable pub ends_blank : List (List ℕ) → Bool
ends_blank [] = false
ends_blank (line ∷ []) = length line == 0
ends_blank (line ∷ next ∷ lines) = ends_blank (next ∷ lines)

-- without the last line, where it is empty
unfoldable pub without_blank_end : List (List ℕ) → List (List ℕ)
without_blank_end [] = []
without_blank_end (line ∷ []) = if length line == 0 then [] else line ∷ []
without_blank_end (line ∷ next ∷ lines) = line ∷ without_blank_end (next ∷ lines)

-- ---- The rows of numbers, by their place in the plan.

-- the number that row i begins with
abbrev pub row_number : List Row → ℕ → ℕ
row_number rows i = number_in (slice_index_or rows i []) 0

abbrev pub option_count : List Row → ℕ
option_count rows = row_number rows 0

abbrev pub constraint_count : List Row → ℕ
constraint_count rows = row_number rows (option_count rows + 1)

abbrev pub dual_count : List Row → ℕ
dual_count rows = row_number rows (option_count rows + 2)

abbrev pub variable_count : List Row → ℕ
variable_count rows = row_number rows (option_count rows + 3)

abbrev pub primal_count : List Row → ℕ
primal_count rows = row_number rows (option_count rows + 4)

abbrev pub rows_await : List Row → LineKind
rows_await rows =
    next_in (row_plan (option_count rows) (dual_count rows) (primal_count rows)) (length rows)

-- ---- A suffix: its first line, and the lines after it.

pub record Piece : Type 0 where
  pub head : Row
  pub lines : List (List ℕ)

abbrev pub piece_awaits : Piece → LineKind
piece_awaits p = next_in (suffix_plan (table_size p.head) (value_size p.head)) (length p.lines)

-- ---- The lines after `Options`.

pub record Body : Type 0 where
  pub rows : List Row
  pub pieces : List Piece

abbrev pub no_body : Body
no_body = record { rows = []; pieces = [] }

abbrev pub last_of : {A : Type 0} → List A → Option A
last_of xs = slice_get xs (length xs - 1)

-- with the last one changed
unfoldable pub change_last : {A : Type 0} → (A → A) → List A → List A
change_last f [] = []
change_last f (x ∷ []) = f x ∷ []
change_last f (x ∷ y ∷ xs) = x ∷ change_last f (y ∷ xs)

-- the line that is awaited: by the last piece, or by the rows where there is none
abbrev pub body_awaits : Body → LineKind
body_awaits b = option_map_or piece_awaits (last_of b.pieces) (rows_await b.rows)

-- it is taken as it is
abbrev pub is_raw : LineKind → Bool
is_raw NameLine = true
is_raw TableLine = true
is_raw a = false

abbrev pub is_tail : LineKind → Bool
is_tail Tail = true
is_tail a = false

abbrev pub with_piece_line : List ℕ → Piece → Piece
with_piece_line line p = record p { lines = p.lines ++ line ∷ [] }

abbrev pub to_last_piece : Body → List ℕ → Body
to_last_piece b line = record b { pieces = change_last (with_piece_line line) b.pieces }

abbrev pub with_row : Body → Row → Body
with_row b row = record b { rows = b.rows ++ row ∷ [] }

abbrev pub with_new_piece : Body → Row → Body
with_new_piece b row = record b { pieces = b.pieces ++ record { head = row; lines = [] } ∷ [] }

-- a line with words belongs to the last suffix, or to the rows of numbers where none has begun
abbrev pub with_row_line : Body → List ℕ → Body
with_row_line b line = if length b.pieces == 0 then with_row b (row_of line)
    else to_last_piece b line

-- A line more. The name and the table of a suffix are taken as they are; any other line counts only
-- where it has words. A suffix begins where nothing else must come.
abbrev pub with_line : Body → List ℕ → Body
with_line b line =
    let row = row_of line in
    let kind = body_awaits b in
    if is_raw kind then to_last_piece b line else
    if length row == 0 then b else
    if is_tail kind && begins row (codes "suffix") then with_new_piece b row else
    with_row_line b line

-- the body of a text with these lines
unfoldable pub body_of : List (List ℕ) → Body
body_of lines = fold with_line no_body (after_first is_options lines)
