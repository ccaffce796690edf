-- The columns of a program, all filled.
use Rattle.std.specs.Prelude.{◌≡◌, List, length, map, All}
use Rattle.mps_model.specs.Mps.{Column, column_with}
use Rattle.mps_model.specs.Valid.{HasEntries}
use Rattle.scaled_program.specs.ExportedProgram.{columns_of}
use Rattle.exact_numbers.specs.declared.dec.Dec.{Dec}
use Rattle.exact_numbers.specs.Values.{dec_value}
use Rattle.row_scaling.specs.Scaled.{ScaledValue}
use Rattle.row_scaling.specs.Parts.{column_count}
use Rattle.row_scaling.specs.Exported.{program_objective, program_rows, program_variables}

-- the columns of the program, each with an entry
pub record AreFilled (s : ScaledValue) (columns : List (Column Dec)) : Type 0 where
  pub value : map (column_with dec_value) columns
      ≡ columns_of (program_objective s) (program_rows s) 0 (program_variables s)
  pub count : length columns ≡ column_count s
  pub filled : All HasEntries columns
