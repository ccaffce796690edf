-- The kinds of the variables of an MPS program: whole columns, and those of them that have only the
-- values 0 and 1.
use Rattle.std.specs.Prelude.{ℕ, Bool, false, cond, ◌&&◌, List, length, Option, Some, None}
use Rattle.std.specs.Ordering.{is_ge, is_le}
use Rattle.exact_numbers.specs.Rational.{ℚ, zero_ℚ, one_ℚ}
use Rattle.exact_numbers.specs.declared.dec.Dec.{Dec}
use Rattle.exact_numbers.specs.Values.{order_of}
use Rattle.linear_program.specs.declared.kind.Kind.{Kind}
use Rattle.linear_program.specs.declared.kind.Kind.TheVariants.{Continuous, Binary, Integer}
use Rattle.mps_model.specs.Mps.{Mps, column_interval, is_whole_column}
use Rattle.mps_program.specs.Places.{listed}
use Rattle.mps_program.specs.Program.{values_of}

-- at least 0 and at most 1, where both are there
abbrev pub are_zero_to_one : Option ℚ → Option ℚ → Bool
are_zero_to_one None u = false
are_zero_to_one (Some l) None = false
are_zero_to_one (Some l) (Some u) = is_ge (order_of l zero_ℚ) && is_le (order_of u one_ℚ)

-- column j has both sides, from 0 to 1
abbrev pub is_zero_to_one : Mps Dec → ℕ → Bool
is_zero_to_one m j =
    are_zero_to_one (column_interval (values_of m) j).lower (column_interval (values_of m) j).upper

abbrev pub is_whole : Mps Dec → ℕ → Bool
is_whole m j = is_whole_column (values_of m) j

-- the kind by two tests
abbrev pub kind_by : Bool → Bool → Kind
kind_by whole zero_to_one = cond whole (cond zero_to_one Binary Integer) Continuous

-- the kind of column j
abbrev pub column_kind : Mps Dec → ℕ → Kind
column_kind m j = kind_by (is_whole m j) (is_zero_to_one m j)

-- those of all columns
abbrev pub kinds_of : Mps Dec → List Kind
kinds_of m = listed (column_kind m) (length m.columns)
