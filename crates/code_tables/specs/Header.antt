-- The fields of the ten header lines of an .nl file (Gay 2005, "Writing .nl Files").
use Rattle.std.specs.Prelude.{ℕ, ◌+◌, ◌==◌, ◌&&◌, Bool, true, false, List, [], ◌∷◌, ◌++◌, Option, find, option_map}
use Rattle.code_tables.specs.declared.field.Field.{Field}
use Rattle.code_tables.specs.declared.field.FieldRow.{FieldRow}

-- whether the line must have a field, and whether it must be 0
abbrev pub Demand : Type 0
Demand = Bool × Bool

abbrev pub needed : Demand
needed = (true, false)

abbrev pub needed_zero : Demand
needed_zero = (true, true)

abbrev pub free : Demand
free = (false, false)

abbrev pub free_zero : Demand
free_zero = (false, true)

-- the fields of a line from a place on, of which the first has this row number; all from 1
abbrev pub fields_from : ℕ → ℕ → ℕ → List Demand → List FieldRow
fields_from line place row [] = []
fields_from line place row (d ∷ ds) =
    record { line = line; place = place; field = record { row = row; required = d.0; zero = d.1 } }
    ∷ fields_from line (place + 1) (row + 1) ds

-- the fields of each line, by its number and that of its first row
unfoldable pub header_rows : List FieldRow
header_rows =
    fields_from 1 1 1 (needed ∷ [])
    ++ fields_from 2 1 2 (needed ∷ needed ∷ needed ∷ needed ∷ needed ∷ free_zero ∷ [])
    ++ fields_from 3 1 8 (needed ∷ needed ∷ [])
    ++ fields_from 4 1 10 (needed_zero ∷ needed_zero ∷ [])
    ++ fields_from 5 1 12 (needed ∷ needed ∷ needed ∷ [])
    ++ fields_from 6 1 15 (needed_zero ∷ needed_zero ∷ free ∷ free ∷ [])
    ++ fields_from 7 1 19 (needed ∷ needed ∷ free ∷ free ∷ free ∷ [])
    ++ fields_from 8 1 24 (needed ∷ needed ∷ [])
    ++ fields_from 9 1 26 (needed ∷ needed ∷ [])
    ++ fields_from 10 1 28 (needed ∷ needed ∷ needed ∷ needed ∷ needed ∷ [])

-- the field of the row at a line and a place
abbrev pub field_in : List FieldRow → ℕ → ℕ → Option Field
field_in rows line place =
    option_map (λ r. r.field) (find (λ r. (r.line == line) && (r.place == place)) rows)

unfoldable pub field_at : ℕ → ℕ → Option Field
unfolding header_rows
field_at line place = field_in header_rows line place
