-- The scaled program that is held as data.
use Rattle.std.specs.Prelude.{ℕ, suc, ℤ, List, [], ◌∷◌, ◌++◌, length, Option, Some, None}
use Rattle.exact_numbers.specs.Rational.{whole, neg_ℚ}
use Rattle.linear_program.specs.Linear.{Form, Variable}
use Rattle.scaled_program.specs.Program.{ScaledProgram, ScaledRow, then_at, z_form, z_variable, zdef_name}
use Rattle.exact_numbers.specs.Values.{dec_value}
use Rattle.linear_program.specs.Decimals.{coefficient_of}
use Rattle.linear_program.specs.Names.{row_name}
use Rattle.linear_program.specs.Intervals.{interval_of}
use Rattle.linear_program.specs.Programs.{variables_from}
use Rattle.row_scaling.specs.declared.row.FactoredRow.{FactoredRow}
use Rattle.row_scaling.specs.declared.row.ScaledObjective.{ScaledObjective}
use Rattle.row_scaling.specs.declared.row.Tie.{Tie}
use Rattle.row_scaling.specs.Rows.{RowValue}
use Rattle.row_scaling.specs.Scaled.{ScaledValue}

-- the scaled row of constraint i
abbrev pub scaled_row_of : ℕ → RowValue → ScaledRow
scaled_row_of i r =
    record { name = row_name i; coefficient = coefficient_of r.terms; side = interval_of r.side }

-- the exported rows in order, of which the first is that of constraint i
abbrev pub exported_from : ℕ → List (Option FactoredRow) → List ScaledRow
exported_from i [] = []
exported_from i (None ∷ rs) = exported_from (suc i) rs
exported_from i (Some r ∷ rs) = scaled_row_of i r.row ∷ exported_from (suc i) rs

abbrev pub form_of : ScaledObjective → Form
form_of o = record { constant = dec_value o.constant; coefficient = coefficient_of o.terms }

-- g times the objective, less g times z, is 0: z is variable n, and the form is the objective
-- times g
abbrev pub tied_row : ℕ → ℤ → Form → ScaledRow
tied_row n g form =
    record {
      name = zdef_name;
      coefficient = then_at n (neg_ℚ (whole g)) form.coefficient;
      side = record { lower = Some (neg_ℚ form.constant); upper = Some (neg_ℚ form.constant) };
    }

-- the tie, where there is one, as the last row
abbrev pub tied_rows : Option Tie → ScaledValue → List ScaledRow
tied_rows None s = []
tied_rows (Some t) s = tied_row (length s.bounds) t.factor (form_of s.objective) ∷ []

-- z, where there is a tie, as the last variable
abbrev pub tied_variables : Option Tie → List Variable
tied_variables None = []
tied_variables (Some t) = z_variable ∷ []

-- the objective as it is, or z
abbrev pub written_form : Option Tie → ScaledValue → Form
written_form None s = form_of s.objective
written_form (Some t) s = z_form (length s.bounds)

abbrev pub program_rows : ScaledValue → List ScaledRow
program_rows s = exported_from 0 s.rows ++ tied_rows s.tie s

abbrev pub program_variables : ScaledValue → List Variable
program_variables s = variables_from 0 s.bounds s.kinds ++ tied_variables s.tie

abbrev pub program_objective : ScaledValue → Form
program_objective s = written_form s.tie s

-- the rows times their factors, and the objective as it is or tied to the column z
unfoldable pub scaled_as : ScaledValue → ScaledProgram
scaled_as s =
    record {
      rows = program_rows s;
      objective = program_objective s;
      variables = program_variables s;
      maximise = s.maximise;
    }
