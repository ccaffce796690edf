-- Right sides and ranges of a program, added row by row.
use Rattle.std.specs.Prelude.{◌≡◌, ℕ, ◌+◌, ◌<◌, List, [], ◌++◌, map, Option, All}
use Rattle.exact_numbers.specs.Rational.{ℚ}
use Rattle.mps_model.specs.Mps.{Entry, entry_with}
use Rattle.scaled_program.specs.Program.{ScaledRow, nonzero, range_of}
use Rattle.scaled_program.specs.ExportedProgram.{rhs_of, with_entry}
use Rattle.exact_numbers.specs.declared.dec.Dec.{Dec}
use Rattle.exact_numbers.specs.Values.{dec_value}

-- the lower side, or else the upper one, but none where it is 0
abbrev pub right_side_of : ScaledRow → Option ℚ
right_side_of r = nonzero (rhs_of r.side.lower r.side.upper)

-- the upper side less the lower one, where both are there and differ
abbrev pub range_in : ScaledRow → Option ℚ
range_in r = range_of r.side.lower r.side.upper

-- the value o is added for row p, and no row after p has one
pub record IsEntryAdded (p : ℕ) (o : Option ℚ) (old now : List (Entry Dec)) : Type 0 where
  pub value : map (entry_with dec_value) now ≡ map (entry_with dec_value) old ++ with_entry p o []
  pub before : All (λ e. e.row < p + 1) now
