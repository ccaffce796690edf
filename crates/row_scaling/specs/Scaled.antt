-- A scaled linear program as data.
use Rattle.std.specs.Prelude.{◌≡◌, ℕ, ◌+◌, ◌≤◌, ◌^◌, ℤ, pos, ◌<ℤ◌, Bool, List, length, get_or, Option, None, All, IfSome}
use Rattle.std.specs.List.{sum_by}
use Rattle.std.specs.Option.{option_map, option_map_or}
use Rattle.exact_numbers.specs.Rational.{whole, neg_ℚ}
use Rattle.exact_numbers.specs.Values.{dec_value}
use Rattle.linear_program.specs.declared.interval.Interval.{Interval}
use Rattle.linear_program.specs.declared.kind.Kind.{Kind}
use Rattle.row_scaling.specs.declared.row.FactoredRow.{FactoredRow}
use Rattle.row_scaling.specs.declared.row.ScaledObjective.{ScaledObjective}
use Rattle.row_scaling.specs.declared.row.Tie.{Tie}
use Rattle.row_scaling.specs.Rows.{RowValue, IsScaledRow, IsSparse, IsBelow}

-- rows by constraint, none where it is not exported; bounds and kinds by variable; the tie where
-- the objective is tied
pub record ScaledValue : Type 0 where
  pub rows : List (Option FactoredRow)
  pub objective : ScaledObjective
  pub tie : Option Tie
  pub maximise : Bool
  pub bounds : List Interval
  pub kinds : List Kind

-- what the constraint i was exported as; nothing past the last
abbrev pub row_at : ScaledValue → ℕ → Option FactoredRow
row_at s i = get_or s.rows i None

-- the factor of a tied objective
abbrev pub objective_factor : ScaledValue → Option ℤ
objective_factor s = option_map (λ t. t.factor) s.tie

-- a scaled row over n variables
pub record IsRowOver (n : ℕ) (r : RowValue) : Type 0 where
  pub row : IsScaledRow r
  pub below : IsBelow n r.terms

-- how many coefficients the rows have
abbrev pub row_term_count : List (Option FactoredRow) → ℕ
row_term_count rows = sum_by (λ o. option_map_or (λ r. length r.row.terms) o 0) rows

-- how many coefficients the rows and the objective have
abbrev pub term_count : ScaledValue → ℕ
term_count s = row_term_count s.rows + length s.objective.terms

-- the factor is above 0, and the weight is minus the factor
pub record IsTie (t : Tie) : Type 0 where
  pub above : pos 0 <ℤ t.factor
  pub weight : dec_value t.weight ≡ neg_ℚ (whole t.factor)

-- what holds of every scaled program; the limits are this project's own
pub record IsScaled (s : ScaledValue) : Type 0 where
  pub rows : All (λ o. IfSome o (λ r. IsRowOver (length s.bounds) r.row)) s.rows
  pub sparse : IsSparse 0 s.objective.terms
  pub below : IsBelow (length s.bounds) s.objective.terms
  pub tie : IfSome s.tie IsTie
  pub kinds : length s.kinds ≡ length s.bounds
  pub few_rows : length s.rows ≤ 2 ^ 20
  pub few_columns : length s.bounds ≤ 2 ^ 20
  pub few_terms : term_count s ≤ 2 ^ 23
