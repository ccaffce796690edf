-- Rows and an objective of a linear program, each times its least factor.
use Rattle.std.specs.Prelude.{◌≡◌, ℕ, ◌<◌, ◌^◌, pos, IsTrue, List, ◌∷◌, length, get_or, Option, Some, None, All}
use Rattle.std.specs.List.{sum_by}
use Rattle.std.specs.Option.{option_map_or}
use Rattle.exact_numbers.specs.Rational.{ℚ, one_ℚ, whole, ◌*ℚ◌}
use Rattle.linear_program.specs.Linear.{Row, Linear, variable_count, row_at}
use Rattle.exact_numbers.specs.Values.{dec_value}
use Rattle.scaled_program.specs.Fits.{RowFits}
use Rattle.scaled_program.specs.Factor.{least_factor, row_numbers}
use Rattle.scaled_program.specs.Program.{scaled_row, is_exported}
use Rattle.linear_program.specs.declared.interval.Interval.{Interval}
use Rattle.linear_program.specs.Names.{row_name}
use Rattle.linear_program.specs.Intervals.{interval_of}
use Rattle.linear_program.specs.declared.form.Form.{Form}
use Rattle.linear_program.specs.Forms.{form_line, form_terms}
use Rattle.linear_program.specs.Programs.{form_of}
use Rattle.row_scaling.specs.declared.row.FactoredRow.{FactoredRow}
use Rattle.row_scaling.specs.declared.row.ScaledObjective.{ScaledObjective}
use Rattle.row_scaling.specs.declared.row.Tie.{Tie}
use Rattle.row_scaling.specs.Exported.{scaled_row_of}
use Rattle.row_scaling.specs.Fitting.{coefficients_in, NumberFits, AreTermsTimes}
use Rattle.row_scaling.specs.Scaled.{IsRowOver, IsTie}

-- the row of constraint i, of a body and its sides
abbrev pub row_for : ℕ → Form → Interval → Row
row_for i body side = record { name = row_name i; body = form_of body; side = interval_of side }

-- the least factor of a row of n variables
abbrev pub factor_for : ℕ → Row → ℕ
factor_for n row = least_factor (row_numbers n row)

-- the row of constraint i times its least factor; all its numbers fit
pub record IsFactored (n i : ℕ) (row : Row) (r : FactoredRow) : Type 0 where
  pub fits : RowFits n row (factor_for n row)
  pub factor : r.factor ≡ pos (factor_for n row)
  pub scaled : scaled_row_of i r.row ≡ scaled_row (factor_for n row) row
  pub over : IsRowOver n r.row

-- what row i of a linear program is scaled to: nothing, where it is not exported
abbrev pub IsScaledAt : Linear → ℕ → Option FactoredRow → Type 0
IsScaledAt f i None = ¬ IsTrue (is_exported (row_at f i))
IsScaledAt f i (Some r) =
    IsTrue (is_exported (row_at f i)) × IsFactored (variable_count f) i (row_at f i) r

-- what every row of a linear program is scaled to
pub record AreScaledRows (f : Linear) (rows : List (Option FactoredRow)) : Type 0 where
  pub count : length rows ≡ length f.rows
  pub scaled : (i : ℕ) → i < length rows → IsScaledAt f i (get_or rows i None)

-- how many coefficients a scaled row has
abbrev pub term_count_of : Option FactoredRow → ℕ
term_count_of o = option_map_or (λ r. length r.row.terms) o 0

-- how many coefficients the bodies have
abbrev pub body_term_count : List Form → ℕ
body_term_count bodies = sum_by (λ f. length (form_terms f)) bodies

-- an objective's constant and its coefficients
abbrev pub numbers_of : Form → List ℚ
numbers_of b = (form_line b).constant ∷ coefficients_in (form_terms b)

-- an objective times q; all its numbers fit
pub record IsObjectiveTimes (q : ℚ) (b : Form) (o : ScaledObjective) : Type 0 where
  pub constant : NumberFits q (form_line b).constant
  pub value : dec_value o.constant ≡ q *ℚ (form_line b).constant
  pub terms : AreTermsTimes q (form_terms b) o.terms

-- an objective times its least factor
pub record IsTiedTo (b : Form) (o : ScaledObjective) (t : Tie) : Type 0 where
  pub tie : IsTie t
  pub factor : t.factor ≡ pos (least_factor (numbers_of b))
  pub small : least_factor (numbers_of b) < 2 ^ 127
  pub times : IsObjectiveTimes (whole (pos (least_factor (numbers_of b)))) b o

-- all numbers of an objective times its least factor fit
pub record AreTiedFit (b : Form) : Type 0 where
  pub small : least_factor (numbers_of b) < 2 ^ 127
  pub numbers : All (NumberFits (whole (pos (least_factor (numbers_of b))))) (numbers_of b)

-- the objective as it is, or tied where it is not decimal
abbrev pub IsTiedOrPlain : Form → ScaledObjective → Option Tie → Type 0
IsTiedOrPlain b o None = IsObjectiveTimes one_ℚ b o
IsTiedOrPlain b o (Some t) = (¬ All (NumberFits one_ℚ) (numbers_of b)) × IsTiedTo b o t

-- the objective is not decimal, and a number of the tied one does not fit
pub record IsTooWide (b : Form) : Type 0 where
  pub tied : ¬ All (NumberFits one_ℚ) (numbers_of b)
  pub wide : ¬ AreTiedFit b
