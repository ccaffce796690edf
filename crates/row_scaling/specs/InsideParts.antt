-- What a scaled program keeps: the parts of the program that is exported.
use Rattle.std.specs.Prelude.{◌≡◌, ℕ, ◌+◌, ◌++◌, length, take, Option, Some, None}
use Rattle.scaled_program.specs.Program.{z_form, zdef_name}
use Rattle.row_scaling.specs.declared.row.FactoredRow.{FactoredRow}
use Rattle.row_scaling.specs.declared.row.ScaledObjective.{ScaledObjective}
use Rattle.row_scaling.specs.declared.row.Tie.{Tie}
use Rattle.row_scaling.specs.declared.tied.Parts.{Parts}
use Rattle.row_scaling.specs.Rows.{IsSparse, IsBelow}
use Rattle.row_scaling.specs.Scaled.{ScaledValue, IsScaled, IsRowOver}
use Rattle.row_scaling.specs.Exported.{form_of, tied_row}
use Rattle.row_scaling.specs.Parts.{AreProgramRows, IsProgramObjective, column_count, row_named, tied_bounds, tied_kinds}

-- the row of a tie over n variables and column n
pub record IsTieRow (n : ℕ) (o : ScaledObjective) (t : Tie) (r : FactoredRow) : Type 0 where
  pub named : row_named zdef_name r.row ≡ tied_row n t.factor (form_of o)
  pub over : IsRowOver (n + 1) r.row
  pub terms : length r.row.terms ≡ length o.terms + 1

-- column n alone
pub record IsColumn (n : ℕ) (o : ScaledObjective) : Type 0 where
  pub form : form_of o ≡ z_form n
  pub sparse : IsSparse 0 o.terms
  pub below : IsBelow (n + 1) o.terms
  pub terms : length o.terms ≡ 1

-- ---- what is kept
-- the objective, or the column of a tie alone
abbrev pub written : Option ScaledObjective → ScaledObjective → ScaledObjective
written None o = o
written (Some z) o = z

-- the value of parts
abbrev pub value_of : Parts → ScaledValue
value_of p =
    record {
      rows = take p.constraints p.rows.items;
      objective = p.objective;
      tie = p.tie;
      maximise = p.maximise;
      bounds = take p.variables p.bounds.items;
      kinds = take p.variables p.kinds.items;
    }

-- the parts are those of the program that is exported
pub record AreKept (p : Parts) (s : ScaledValue) : Type 0 where
  pub scaled : IsScaled s
  pub constraints : p.constraints ≡ length s.rows
  pub variables : p.variables ≡ length s.bounds
  pub rows : AreProgramRows s p.rows.items
  pub objective : IsProgramObjective s (written p.column s.objective)
  pub bounds : p.bounds.items ≡ s.bounds ++ tied_bounds s.tie
  pub kinds : p.kinds.items ≡ s.kinds ++ tied_kinds s.tie
  pub bound_count : length p.bounds.items ≡ column_count s
  pub kind_count : length p.kinds.items ≡ column_count s

-- the parts have this value
pub record HaveValue (p : Parts) (s : ScaledValue) : Type 0 where
  pub same : value_of p ≡ s
  pub kept : AreKept p s
