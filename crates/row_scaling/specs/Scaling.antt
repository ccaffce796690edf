-- What scaling the rows of a linear program answers.
use Rattle.std.specs.Prelude.{◌≡◌, ◌⊎◌, ℕ, ℤ, pos, IsTrue, Option, Some, None}
use Rattle.std.specs.Option.{option_map}
use Rattle.linear_program.specs.Linear.{Linear, row_at as row_of_program}
use Rattle.scaled_program.specs.Fits.{ExportFits, IsDecimal, IsScaledProgramOf, ObjectiveFits, IsRowTooWide, IsObjectiveTooWide, factor_of_row, factor_of_objective}
use Rattle.scaled_program.specs.Program.{is_exported}
use Rattle.row_scaling.specs.declared.scale_fault.ScaleFault.{ScaleFault}
use Rattle.row_scaling.specs.declared.scale_fault.ScaleFault.TheVariants.{RowTooWide, ObjectiveTooWide}
use Rattle.row_scaling.specs.Scaled.{ScaledValue, row_at, objective_factor}
use Rattle.row_scaling.specs.Exported.{scaled_as}

-- all numbers of the program fit: no row and no tied objective is too wide
pub record HasNoScaleFault (f : Linear) : Type 0 where
  pub rows : (i : ℕ) → ExportFits f i
  pub objective : IsDecimal f ⊎ ObjectiveFits f

-- the first fault: a row, by number, and then the objective
abbrev pub HasScaleFault : Linear → ScaleFault → Type 0
HasScaleFault f (RowTooWide i) = IsRowTooWide f i
HasScaleFault f ObjectiveTooWide = IsObjectiveTooWide f

-- the factor of a row, where it is exported
abbrev pub factor_at : ScaledValue → ℕ → Option ℤ
factor_at s i = option_map (λ r. r.factor) (row_at s i)

-- the factors of a scaled program: the least ones, of exported rows alone, and of an objective that
-- is tied
pub record HasLeastFactors (f : Linear) (s : ScaledValue) : Type 0 where
  pub exported : (i : ℕ) → IsTrue (is_exported (row_of_program f i))
      → factor_at s i ≡ Some (pos (factor_of_row f i))
  pub others : (i : ℕ) → (IsTrue (is_exported (row_of_program f i)) → ⊥) → factor_at s i ≡ None
  pub plain : IsDecimal f → objective_factor s ≡ None
  pub tied : (IsDecimal f → ⊥) → objective_factor s ≡ Some (pos (factor_of_objective f))

-- the scaled program of a linear program
pub record IsScaledOf (f : Linear) (s : ScaledValue) : Type 0 where
  pub program : IsScaledProgramOf f (scaled_as s)
  pub factors : HasLeastFactors f s
