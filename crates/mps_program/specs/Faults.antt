-- The first fault of an MPS program that has no linear program here (own profile: the limits are
-- those of linear programs and of their numbers).
use Rattle.std.specs.Prelude.{ℕ, ◌^◌, nat_lt, Bool, false, not, ◌&&◌, ◌||◌, if◌then◌else◌, length, get_or, Option, Some, None}
use Rattle.std.specs.Option.{option_map, option_or}
use Rattle.std.specs.Ordering.{is_gt}
use Rattle.std.specs.declared.cmp.Ordering.{Ordering}
use Rattle.exact_numbers.specs.Rational.{ℚ, zero_ℚ, neg_ℚ, ◌+ℚ◌}
use Rattle.exact_numbers.specs.Fits.{fits, sum_fits}
use Rattle.exact_numbers.specs.Values.{fits_dec, order_of}
use Rattle.exact_numbers.specs.declared.dec.Dec.{Dec}
use Rattle.mps_model.specs.Mps.{Mps, no_mps_row, at_row, rhs_at, size_of, column_interval, objective_row}
use Rattle.mps_model.specs.Valid.{entry_count}
use Rattle.mps_model.specs.declared.kinds.RowKind.{RowKind}
use Rattle.mps_model.specs.declared.kinds.RowKind.TheVariants.{N, L, G, E}
use Rattle.mps_program.specs.declared.mps_fault.MpsFault.{MpsFault}
use Rattle.mps_program.specs.declared.mps_fault.MpsFault.TheVariants.{EmptyInterval, TooWide, TooLarge}
use Rattle.mps_program.specs.Places.{places, first}
use Rattle.mps_program.specs.Program.{values_of, is_constraint, constraints}
use Rattle.mps_program.specs.Terms.{row_terms, has_wide_term}

-- more constraints, columns or entries than a linear program may have
unfoldable pub is_too_large : Mps Dec → Bool
is_too_large m =
    nat_lt (2 ^ 20) (length (constraints m.rows)) || nat_lt (2 ^ 20) (length m.columns)
    || nat_lt (2 ^ 23) (entry_count m.columns)

-- ---- sides
-- what a range adds to the right side, for the other side of the row
abbrev pub range_step : RowKind → ℚ → ℚ
range_step N r = zero_ℚ
range_step L r = neg_ℚ (size_of r)
range_step G r = size_of r
range_step E r = r

-- the right side, the range and their sum are within reach, and the sum is a decimal
abbrev pub is_in_reach : RowKind → ℚ → ℚ → Bool
is_in_reach kind b r =
    fits b && fits r && sum_fits b (range_step kind r) && fits_dec (b +ℚ range_step kind r)

-- a range is out of reach
abbrev pub is_range_wide : RowKind → ℚ → Option ℚ → Bool
is_range_wide kind b None = false
is_range_wide kind b (Some r) = not (is_in_reach kind b r)

-- row i has a range, and its other side is out of reach
abbrev pub is_row_wide : Mps Dec → ℕ → Bool
is_row_wide m i =
    is_range_wide (get_or m.rows i no_mps_row).kind (rhs_at (values_of m) i)
    (at_row i (values_of m).ranges)

-- what a test says of both sides, where both are there
abbrev pub both_sides : (Ordering → Bool) → Option ℚ → Option ℚ → Bool
both_sides test None u = false
both_sides test (Some l) None = false
both_sides test (Some l) (Some u) = test (order_of l u)

-- the lower side of column j is above its upper side
abbrev pub is_column_empty : Mps Dec → ℕ → Bool
is_column_empty m j =
    both_sides is_gt (column_interval (values_of m) j).lower (column_interval (values_of m) j).upper

-- the first row whose range is out of reach, and the first column without a value
abbrev pub first_wide : Mps Dec → Option ℕ
first_wide m = first (places (is_row_wide m) (length m.rows))

abbrev pub first_empty : Mps Dec → Option ℕ
first_empty m = first (places (is_column_empty m) (length m.columns))

-- ---- forms
-- row i is a constraint, and a coefficient of it has no fraction
abbrev pub is_body_wide : Mps Dec → ℕ → Bool
is_body_wide m i = is_constraint m.rows i && has_wide_term (row_terms m i)

abbrev pub first_wide_body : Mps Dec → Option ℕ
first_wide_body m = first (places (is_body_wide m) (length m.rows))

-- a coefficient of the objective or its right side has no fraction
abbrev pub is_objective_wide : Mps Dec → Bool
is_objective_wide m =
    not (fits (rhs_at (values_of m) (objective_row m.rows)))
    || has_wide_term (row_terms m (objective_row m.rows))

abbrev pub wide_objective : Mps Dec → Option ℕ
wide_objective m = if is_objective_wide m then Some (objective_row m.rows) else None

-- ---- the first fault: the size, the ranges of rows, the columns, the numbers of constraints,
-- those of the objective
unfoldable pub mps_fault : Mps Dec → Option MpsFault
mps_fault m =
    if is_too_large m then Some TooLarge
    else option_or (option_map TooWide (first_wide m))
    (option_or (option_map EmptyInterval (first_empty m))
    (option_map TooWide (option_or (first_wide_body m) (wide_objective m))))
