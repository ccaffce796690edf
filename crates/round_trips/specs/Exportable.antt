-- Linear programs as files give them: rows and variables by number, within the limits of a file.
use Rattle.std.specs.Prelude.{◌≡◌, if◌then◌else◌, ℕ, zero, suc, ◌+◌, ◌<◌, ◌≤◌, ◌^◌, All, IfSome}
use Rattle.std.specs.List.{sum_by}
use Rattle.exact_numbers.specs.Values.{FitsDec}
use Rattle.linear_program.specs.Linear.{Form, Variable, Linear, IsLinear, row_at, row_count, variable_at, variable_count}
use Rattle.linear_program.specs.Lines.{is_zero}
use Rattle.linear_program.specs.Names.{row_name, variable_name}

-- row i is named ci and variable j xj, and there are at most 2^20 of each
pub record IsNamedByNumber (l : Linear) : Type 0 where
  pub rows : (i : ℕ) → i < row_count l → (row_at l i).name ≡ row_name i
  pub variables : (j : ℕ) → j < variable_count l → (variable_at l j).name ≡ variable_name j
  pub few_rows : row_count l ≤ 2 ^ 20
  pub few_variables : variable_count l ≤ 2 ^ 20

-- how many of a form's first n coefficients are not 0
abbrev pub form_count : ℕ → Form → ℕ
form_count zero f = 0
form_count (suc n) f = form_count n f + (if is_zero (f.coefficient n) then 0 else 1)

-- those of all rows and of the objective
abbrev pub coefficient_total : Linear → ℕ
coefficient_total l =
    sum_by (λ r. form_count (variable_count l) r.body) l.rows
    + form_count (variable_count l) l.objective

-- the bounds of a variable are decimals
pub record HasDecimalBounds (v : Variable) : Type 0 where
  pub lower : IfSome v.bound.lower FitsDec
  pub upper : IfSome v.bound.upper FitsDec

-- moreover it has at most 2^23 coefficients, none past the last variable, and decimal bounds
pub record IsExportable (l : Linear) : Type 0 where
  pub named : IsNamedByNumber l
  pub linear : IsLinear l
  pub few_coefficients : coefficient_total l ≤ 2 ^ 23
  pub bounds : All HasDecimalBounds l.variables
