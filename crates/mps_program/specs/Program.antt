-- The linear program that an MPS program is, in its own numbering: constraint k is the k-th row
-- that is no N row, variable j is column j, the objective is the first N row.
use Rattle.std.specs.Prelude.{ℕ, suc, Bool, true, false, List, [], ◌∷◌, length, get_or}
use Rattle.exact_numbers.specs.Rational.{ℚ, zero_ℚ, one_ℚ, neg_ℚ}
use Rattle.linear_program.specs.Elements.{elements_from}
use Rattle.linear_program.specs.Linear.{Form, Row, Variable, Linear}
use Rattle.linear_program.specs.Names.{row_name, variable_name}
use Rattle.exact_numbers.specs.Values.{dec_value}
use Rattle.exact_numbers.specs.declared.dec.Dec.{Dec}
use Rattle.mps_model.specs.Mps.{MpsRow, Mps, with_values, no_mps_row, column_at, part_of_row, rhs_at, row_interval, column_interval, is_whole_column, objective_row}
use Rattle.mps_model.specs.declared.kinds.RowKind.{RowKind}
use Rattle.mps_model.specs.declared.kinds.RowKind.TheVariants.{N, L, G, E}
use Rattle.mps_program.specs.Places.{places}

-- the program of the values that the decimals have
abbrev pub values_of : Mps Dec → Mps ℚ
values_of m = with_values dec_value m

-- ---- constraints
abbrev pub is_bounded_kind : RowKind → Bool
is_bounded_kind N = false
is_bounded_kind L = true
is_bounded_kind G = true
is_bounded_kind E = true

-- row i is no N row
abbrev pub is_constraint : List MpsRow → ℕ → Bool
is_constraint rows i = is_bounded_kind (get_or rows i no_mps_row).kind

-- the row of each constraint, in order
unfoldable pub constraints : List MpsRow → List ℕ
constraints rows = places (is_constraint rows) (length rows)

-- ---- forms
-- the sum of column j's entries in row i
abbrev pub coefficient_at : Mps ℚ → ℕ → ℕ → ℚ
coefficient_at m i j = part_of_row i (column_at m j).entries one_ℚ

abbrev pub row_form : Mps ℚ → ℕ → Form
row_form m i = record { constant = zero_ℚ; coefficient = coefficient_at m i }

-- the right side of the objective's row counts with the other sign
abbrev pub objective_form : Mps ℚ → Form
objective_form m =
    record {
      constant = neg_ℚ (rhs_at m (objective_row m.rows));
      coefficient = coefficient_at m (objective_row m.rows);
    }

-- ---- the linear program
-- constraint k, which is row i
abbrev pub linear_row : Mps ℚ → ℕ → ℕ → Row
linear_row m k i = record { name = row_name k; body = row_form m i; side = row_interval m i }

-- the constraints of some rows, of which the first is constraint k
abbrev pub linear_rows : Mps ℚ → ℕ → List ℕ → List Row
linear_rows m k [] = []
linear_rows m k (i ∷ is) = linear_row m k i ∷ linear_rows m (suc k) is

abbrev pub linear_variable : Mps ℚ → ℕ → Variable
linear_variable m j =
    record { name = variable_name j; bound = column_interval m j; whole = is_whole_column m j }

unfoldable pub linear_of : Mps ℚ → Linear
linear_of m =
    record {
      rows = linear_rows m 0 (constraints m.rows);
      variables = elements_from (linear_variable m) 0 (length m.columns);
      objective = objective_form m;
      maximise = m.maximise;
    }
