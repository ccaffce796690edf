-- Which numbers of a scaled program fit, which fault comes first, and the scaled program of a linear
-- one with the least factors.
use Rattle.std.specs.Prelude.{◌≡◌, ℕ, ◌<◌, ◌^◌, pos, IsTrue, Option, Some, None, All}
use Rattle.exact_numbers.specs.Fits.{fits, sum_fits}
use Rattle.exact_numbers.specs.Rational.{neg_ℚ, ℚ, whole, ◌-ℚ◌, ◌*ℚ◌}
use Rattle.scaled_program.specs.Factor.{least_factor, row_numbers, objective_numbers, coefficients_below}
use Rattle.linear_program.specs.Linear.{Row, Linear, variable_count, row_at}
use Rattle.exact_numbers.specs.Values.{FitsDec}
use Rattle.scaled_program.specs.Program.{ScaledProgram, scaled_by, scaled_and_tied, scaled_side, nonzero, is_exported}

-- ---- factors
abbrev pub factor_of_row : Linear → ℕ → ℕ
factor_of_row f i = least_factor (row_numbers (variable_count f) (row_at f i))

-- the least factor of the objective's numbers
abbrev pub factor_of_objective : Linear → ℕ
factor_of_objective f = least_factor (objective_numbers (variable_count f) f.objective)

-- ---- faults
pub record ScaledFits (k : ℕ) (x : ℚ) : Type 0 where
  pub frac : IsTrue (fits (whole (pos k) *ℚ x))
  pub dec : FitsDec (whole (pos k) *ℚ x)

-- a side, and what is left of it without the constant, times k
pub record SideFits (k : ℕ) (constant s : ℚ) : Type 0 where
  pub side : IsTrue (fits s)
  pub less : IsTrue (sum_fits s (neg_ℚ constant))
  pub scaled : ScaledFits k (s -ℚ constant)

-- both scaled sides, where both are finite and differ
pub record RangeFits (l u : ℚ) : Type 0 where
  pub difference : IsTrue (sum_fits u (neg_ℚ l))
  pub dec : FitsDec (u -ℚ l)

-- P holds of the side, where there is one
abbrev pub IfSide : (ℚ → Type 0) → Option ℚ → Type 0
IfSide P None = Unit {0}
IfSide P (Some s) = P s

-- P holds of both sides, where both are there and differ
abbrev pub IfBoth : (ℚ → ℚ → Type 0) → Option ℚ → Option ℚ → Type 0
IfBoth P (Some l) (Some u) = IfSide (λ r. P l u) (nonzero (u -ℚ l))
IfBoth P _ _ = Unit {0}

-- all numbers of a row with factor k fit
pub record RowFits (n : ℕ) (r : Row) (k : ℕ) : Type 0 where
  pub factor : k < 2 ^ 127
  pub coefficients : All (ScaledFits k) (coefficients_below r.body.coefficient n)
  pub lower : IfSide (SideFits k r.body.constant) r.side.lower
  pub upper : IfSide (SideFits k r.body.constant) r.side.upper
  pub range : IfBoth RangeFits (scaled_side (whole (pos k)) r.body.constant r.side.lower)
      (scaled_side (whole (pos k)) r.body.constant r.side.upper)

-- row i is not exported, or its numbers fit
abbrev pub ExportFits : Linear → ℕ → Type 0
ExportFits f i = IsTrue (is_exported (row_at f i))
    → RowFits (variable_count f) (row_at f i) (factor_of_row f i)

-- row i is the first that is too wide
pub record IsRowTooWide (f : Linear) (i : ℕ) : Type 0 where
  pub before : (k : ℕ) → k < i → ExportFits f k
  pub wide : ¬ ExportFits f i

-- the objective is written as it is
abbrev pub IsDecimal : Linear → Type 0
IsDecimal f = All FitsDec (objective_numbers (variable_count f) f.objective)

-- the numbers of a tied objective fit
pub record ObjectiveFits (f : Linear) : Type 0 where
  pub factor : factor_of_objective f < 2 ^ 127
  pub parts : All (ScaledFits (factor_of_objective f))
      (objective_numbers (variable_count f) f.objective)

-- the rows fit, and a tied objective does not
pub record IsObjectiveTooWide (f : Linear) : Type 0 where
  pub rows : (i : ℕ) → ExportFits f i
  pub tied : ¬ IsDecimal f
  pub wide : ¬ ObjectiveFits f

-- ---- the program
-- the scaled program of a linear program: with the least factors, and tied exactly where the
-- objective is not decimal
pub record IsScaledProgramOf (f : Linear) (s : ScaledProgram) : Type 0 where
  pub plain : IsDecimal f → s ≡ scaled_by f (factor_of_row f)
  pub tied : ¬ IsDecimal f → s ≡ scaled_and_tied f (factor_of_row f) (factor_of_objective f)
