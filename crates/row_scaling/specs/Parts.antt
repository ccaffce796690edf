-- The parts of the exported program as lists, in which the row and the column of a tie come last.
use Rattle.std.specs.Prelude.{◌≡◌, ℕ, suc, ◌+◌, ◌≤◌, nat_eq, cond, List, [], ◌∷◌, length, Option, Some, None, All, IfSome}
use Rattle.linear_program.specs.Names.{row_name}
use Rattle.scaled_program.specs.Program.{ScaledRow, zdef_name}
use Rattle.linear_program.specs.declared.interval.Interval.{Interval}
use Rattle.linear_program.specs.declared.kind.Kind.{Kind}
use Rattle.linear_program.specs.declared.kind.Kind.TheVariants.{Continuous}
use Rattle.linear_program.specs.Decimals.{coefficient_of}
use Rattle.linear_program.specs.Intervals.{interval_of, no_sides}
use Rattle.row_scaling.specs.declared.row.FactoredRow.{FactoredRow}
use Rattle.row_scaling.specs.declared.row.ScaledObjective.{ScaledObjective}
use Rattle.row_scaling.specs.declared.row.Tie.{Tie}
use Rattle.row_scaling.specs.Rows.{RowValue, IsSparse, IsBelow}
use Rattle.row_scaling.specs.Scaled.{ScaledValue, IsRowOver, row_term_count}
use Rattle.row_scaling.specs.Exported.{form_of, program_rows, program_objective}

-- the name of row i of a list: row n is that of a tie
abbrev pub name_in : ℕ → ℕ → List ℕ
name_in n i = cond (nat_eq i n) zdef_name (row_name i)

-- a scaled row by its name
abbrev pub row_named : List ℕ → RowValue → ScaledRow
row_named name r =
    record { name = name; coefficient = coefficient_of r.terms; side = interval_of r.side }

-- the rows of a list that are there, in order and named by number, of which the first is row i
abbrev pub rows_in : (ℕ → List ℕ) → ℕ → List (Option FactoredRow) → List ScaledRow
rows_in name i [] = []
rows_in name i (None ∷ rs) = rows_in name (suc i) rs
rows_in name i (Some r ∷ rs) = row_named (name i) r.row ∷ rows_in name (suc i) rs

-- z, where there is a tie
abbrev pub tied_count : Option Tie → ℕ
tied_count None = 0
tied_count (Some t) = 1

abbrev pub column_count : ScaledValue → ℕ
column_count s = length s.bounds + tied_count s.tie

-- the bounds of z
abbrev pub tied_bounds : Option Tie → List Interval
tied_bounds None = []
tied_bounds (Some t) = no_sides ∷ []

-- the kind of z
abbrev pub tied_kinds : Option Tie → List Kind
tied_kinds None = []
tied_kinds (Some t) = Continuous ∷ []

-- how many terms the row of a tie has, k being those of the objective
abbrev pub tied_terms : Option Tie → ℕ → ℕ
tied_terms None k = 0
tied_terms (Some t) k = k + 1

-- the rows of the program, by constraint, the row of a tie last
pub record AreProgramRows (s : ScaledValue) (rows : List (Option FactoredRow)) : Type 0 where
  pub named : rows_in (name_in (length s.rows)) 0 rows ≡ program_rows s
  pub over : All (λ o. IfSome o (λ r. IsRowOver (column_count s) r.row)) rows
  pub few : length rows ≤ length s.rows + 1
  pub terms : row_term_count rows
      ≡ row_term_count s.rows + tied_terms s.tie (length s.objective.terms)

-- the objective of the program: z alone, where there is a tie
pub record IsProgramObjective (s : ScaledValue) (o : ScaledObjective) : Type 0 where
  pub form : form_of o ≡ program_objective s
  pub sparse : IsSparse 0 o.terms
  pub below : IsBelow (column_count s) o.terms
  pub terms : length o.terms + tied_terms s.tie (length s.objective.terms)
      ≤ length s.objective.terms + 2
