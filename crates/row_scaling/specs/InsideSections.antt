-- The program of a scaled linear program, section by section, and the lines of its rows.
use Rattle.std.specs.Prelude.{ℕ, Bool, List, [], ◌∷◌, ◌++◌, drop, map, codes, Option, Some, None}
use Rattle.exact_numbers.specs.Rational.{ℚ, neg_ℚ}
use Rattle.exact_numbers.specs.declared.dec.Dec.{Dec}
use Rattle.exact_numbers.specs.Values.{text_of, value_text}
use Rattle.text_base.specs.WordLines.{WordLine, indented, unless_empty}
use Rattle.mps_model.specs.Mps.{MpsRow, Entry, Column, Bound}
use Rattle.mps_model.specs.declared.kinds.BoundKind.{BoundKind}
use Rattle.mps_model.specs.declared.kinds.RowKind.TheVariants.{N}
use Rattle.mps_model.specs.Text.{bound_line, bound_text, column_lines, entry_lines, name_lines, row_line, section, sense_lines, value_words}
use Rattle.scaled_program.specs.Program.{ScaledRow, nonzero}
use Rattle.scaled_program.specs.ExportedProgram.{bounds_of, columns_of, entries_of, mps_row, nl_name, obj_name, with_entry}
use Rattle.row_scaling.specs.Scaled.{ScaledValue}
use Rattle.row_scaling.specs.Exported.{program_objective, program_rows, program_variables}
use Rattle.row_scaling.specs.declared.listed_rows.RowSection.{RowSection}
use Rattle.row_scaling.specs.declared.listed_rows.RowSection.TheVariants.{Ranges, Rows, Sides}
use Rattle.row_scaling.specs.InsideSides.{range_in, right_side_of}

-- the rows, the objective first
abbrev pub all_rows : ScaledValue → List MpsRow
all_rows s = record { name = obj_name; kind = N } ∷ map mps_row (program_rows s)

-- a column for each variable
abbrev pub all_columns : ScaledValue → List (Column ℚ)
all_columns s = columns_of (program_objective s) (program_rows s) 0 (program_variables s)

-- minus the objective's constant, and the right sides of the rows
abbrev pub all_sides : ScaledValue → List (Entry ℚ)
all_sides s =
    with_entry 0 (nonzero (neg_ℚ (program_objective s).constant))
    (entries_of right_side_of 1 (program_rows s))

-- the ranges of the rows
abbrev pub all_ranges : ScaledValue → List (Entry ℚ)
all_ranges s = entries_of range_in 1 (program_rows s)

-- the bounds of the variables
abbrev pub all_bounds : ScaledValue → List (Bound ℚ)
all_bounds s = bounds_of 0 (program_variables s)

-- the lines before those of the columns
abbrev pub first_lines : ScaledValue → List WordLine
first_lines s =
    name_lines nl_name
    ++ sense_lines s.maximise
    ++ section (codes "ROWS") ∷ map row_line (all_rows s)

-- the lines after those of the columns
abbrev pub last_lines : ScaledValue → List WordLine
last_lines s =
    section (codes "RHS") ∷ entry_lines value_text (all_rows s) (codes "RHS") (all_sides s)
    ++ unless_empty (all_ranges s)
    (section (codes "RANGES") ∷ entry_lines value_text (all_rows s) (codes "RNG") (all_ranges s))
    ++ unless_empty (all_bounds s)
    (section (codes "BOUNDS") ∷ map (bound_line value_text (all_columns s)) (all_bounds s))
    ++ section (codes "ENDATA") ∷ []

-- ---- lines by name
-- the line of a row
abbrev pub row_lines : ScaledRow → List WordLine
row_lines r = row_line (mps_row r) ∷ []

-- the line of a value at a name, where there is one
abbrev pub value_lines : List ℕ → List ℕ → Option ℚ → List WordLine
value_lines word name None = []
value_lines word name (Some v) = indented (word ∷ name ∷ value_text v ∷ []) ∷ []

-- the line of a row's right side, where it has one
abbrev pub side_lines : ScaledRow → List WordLine
side_lines r = value_lines (codes "RHS") r.name (right_side_of r)

-- the line of a row's range, where it has one
abbrev pub range_lines : ScaledRow → List WordLine
range_lines r = value_lines (codes "RNG") r.name (range_in r)

-- what a section says of a row
abbrev pub lines_in : RowSection → ScaledRow → List WordLine
lines_in Rows = row_lines
lines_in Sides = side_lines
lines_in Ranges = range_lines

-- the line of a bound of this kind and value, of the column of this name
abbrev pub bound_by : List ℕ → BoundKind → Dec → WordLine
bound_by name kind value =
    indented (bound_text kind ∷ codes "BND" ∷ name ∷ value_words kind (text_of value))

-- the line of a second bound of the column of this name, where there is one
abbrev pub second_lines : List ℕ → Option (BoundKind × Dec) → List WordLine
second_lines name None = []
second_lines name (Some b) = bound_by name b.0 b.1 ∷ []

-- the line of a bound of the column of this name
abbrev pub named_bound : List ℕ → Bound ℚ → WordLine
named_bound name b =
    indented (bound_text b.kind ∷ codes "BND" ∷ name ∷ value_words b.kind (value_text b.value))

-- the lines of the columns from column j on, with i marker lines before them
abbrev pub lines_from : ScaledValue → Bool → ℕ → ℕ → List WordLine
lines_from s before i j = column_lines value_text (all_rows s) before i (drop j (all_columns s))
