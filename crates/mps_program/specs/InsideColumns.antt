-- What the bound records of a program say of one column, and the kind of its variable.
use Rattle.std.specs.Prelude.{ℕ, Bool, false, ◌||◌, List, map}
use Rattle.exact_numbers.specs.declared.dec.Dec.{Dec}
use Rattle.exact_numbers.specs.Values.{dec_value}
use Rattle.mps_model.specs.Mps.{Bound, bound_with, Side, Unset, Open, At, SetSides, first_sides, sides_set, has_whole_record}
use Rattle.mps_program.specs.declared.columns.ColumnSide.{ColumnSide}
use Rattle.mps_program.specs.declared.columns.ColumnSide.TheVariants.{Unset as NotSet, Open as Endless, At as AtDec}
use Rattle.mps_program.specs.declared.columns.ColumnSides.{ColumnSides}

-- no record
abbrev pub none_set : ColumnSides
none_set = record { lower = NotSet; upper = NotSet; whole = false }

-- the side that is meant
abbrev pub side_value : ColumnSide → Side
side_value NotSet = Unset
side_value Endless = Open
side_value (AtDec d) = At (dec_value d)

abbrev pub sides_value : ColumnSides → SetSides
sides_value c = record { lower = side_value c.lower; upper = side_value c.upper }

-- what is set so far, and else by the records bs for column j, and whether one makes it whole
abbrev pub with_sets : ColumnSides → ℕ → List (Bound Dec) → SetSides × Bool
with_sets c j bs =
    let values = map (bound_with dec_value) bs in
    (first_sides (sides_value c) (sides_set j values), c.whole || has_whole_record j values)

-- what all records set for column j
abbrev pub sets_of : ℕ → List (Bound Dec) → SetSides × Bool
sets_of j bs =
    let values = map (bound_with dec_value) bs in
    (sides_set j values, has_whole_record j values)
