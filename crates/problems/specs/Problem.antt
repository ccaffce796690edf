-- The problem that an MPS program states.
use Rattle.std.specs.Prelude.{ℕ, true, List, length, get_or, Some}
use Rattle.exact_numbers.specs.Rational.{ℚ}
use Rattle.certificates.specs.Problem.{Problem}
use Rattle.mps_model.specs.Mps.{Mps, MpsRow, row_value, row_interval, column_interval, is_whole_column, mps_objective}
use Rattle.mps_program.specs.Program.{constraints}

-- the row that is constraint i; nothing asks for one past the last
abbrev pub row_of : List MpsRow → ℕ → ℕ
row_of rows i = get_or (constraints rows) i 0

-- Constraint i is the i-th row that is no N row, variable j is column j, and the objective is the
-- first N row less its right side.
abbrev pub mps_problem : Mps ℚ → Problem
mps_problem m = record {
  constraints = length (constraints m.rows);
  body = λ i xs. Some (row_value m xs (row_of m.rows i));
  side = λ i. row_interval m (row_of m.rows i);
  variables = length m.columns;
  bound = column_interval m;
  is_whole = is_whole_column m;
  has_objective = true;
  objective = λ xs. Some (mps_objective m xs);
  maximises = m.maximise;
}
