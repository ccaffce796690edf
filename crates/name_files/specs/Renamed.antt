-- A program whose rows and columns get other names.
use Rattle.std.specs.Prelude.{◌≡◌, ◌⊎◌, ◌↔◌, ℕ, ◌<◌, ◌≤◌, ◌^◌, List, [], ◌∷◌, length, map, slice_index_or, Option, Some, None, All}
use Rattle.exact_numbers.specs.Rational.{ℚ}
use Rattle.linear_program.specs.Linear.{Linear}
use Rattle.linear_program.specs.Names.{row_name, variable_name}
use Rattle.mps_model.specs.Mps.{MpsRow, Column, Mps, IsMpsFeasible, mps_objective}
use Rattle.scaled_program.specs.ExportedProgram.{obj_name}
use Rattle.scaled_program.specs.Program.{z_name, zdef_name}
use Rattle.mps_model.specs.Names.{index_named}

-- ---- The new names.

-- an `@` before a name
abbrev pub marked : List ℕ → List ℕ
marked old = 64 ∷ old

-- the name of this number; without one, the old name marked
abbrev pub named_at : List (List ℕ) → List ℕ → Option ℕ → List ℕ
named_at names old None = marked old
named_at names old (Some i) = slice_index_or names i []

-- what was named by its number gets the name of that number
abbrev pub new_name : (ℕ → List ℕ) → List (List ℕ) → List ℕ → List ℕ
new_name name names old = named_at names old (index_named name (length names) old)

abbrev pub named_row : (List ℕ → List ℕ) → MpsRow → MpsRow
named_row rename r = record { name = rename r.name; kind = r.kind }

abbrev pub named_column : {V : Type 0} → (List ℕ → List ℕ) → Column V → Column V
named_column rename c = record { name = rename c.name; marked = c.marked; entries = c.entries }

-- with the names of rows, and of columns
abbrev pub named_rows : List (List ℕ) → List MpsRow → List MpsRow
named_rows names rows = map (named_row (new_name row_name names)) rows

abbrev pub named_columns : {V : Type 0} → List (List ℕ) → List (Column V) → List (Column V)
named_columns names columns = map (named_column (new_name variable_name names)) columns

-- with each row and each column named by its old name
unfoldable pub with_names : {V : Type 0} → (List ℕ → List ℕ) → (List ℕ → List ℕ) → Mps V → Mps V
with_names row column m =
    record m { rows = map (named_row row) m.rows; columns = map (named_column column) m.columns }

-- row ci is named as name i of the rows, column xj as name j of the columns
abbrev pub named : {V : Type 0} → Mps V → List (List ℕ) → List (List ℕ) → Mps V
named m rows columns = with_names (new_name row_name rows) (new_name variable_name columns) m

-- ---- The programs that are renamed so.

-- the name is that of a number below n
pub record IsNumbered (name : ℕ → List ℕ) (n : ℕ) (text : List ℕ) : Type 0 where
  pub number : ℕ
  pub below : number < n
  pub same : text ≡ name number

-- the row of the objective, and the row and the column of an objective that is tied to a column
abbrev pub IsUnnumbered : List ℕ → Type 0
IsUnnumbered text = (text ≡ obj_name) ⊎ (text ≡ zdef_name) ⊎ (text ≡ z_name)

abbrev pub IsExportedName : (ℕ → List ℕ) → ℕ → List ℕ → Type 0
IsExportedName name n text = IsUnnumbered text ⊎ IsNumbered name n text

-- names of an export of n constraints or variables; a file has fewer than 2^31 of them
pub record AreExportedNames (name : ℕ → List ℕ) (n : ℕ) (texts : List (List ℕ)) : Type 0 where
  pub few : n ≤ 2 ^ 31
  pub each : All (IsExportedName name n) texts

-- a program with the names that an export of so many constraints and variables gives
pub record HasExportedNames {V : Type 0} (constraints variables : ℕ) (m : Mps V) : Type 0 where
  pub rows : AreExportedNames row_name constraints (map (λ r. r.name) m.rows)
  pub columns : AreExportedNames variable_name variables (map (λ c. c.name) m.columns)

-- each row and each variable is named by its number, as those of a file are
pub record IsNamedLinear (f : Linear) : Type 0 where
  pub few_rows : length f.rows ≤ 2 ^ 31
  pub few_variables : length f.variables ≤ 2 ^ 31
  pub rows : All (λ r. IsNumbered row_name (length f.rows) r.name) f.rows
  pub variables : All (λ v. IsNumbered variable_name (length f.variables) v.name) f.variables

-- ---- Its meaning.

-- both programs have the same points and the same objective
pub record HaveOneMeaning (m n : Mps ℚ) : Type 0 where
  pub points : (xs : List ℚ) → IsMpsFeasible m xs ↔ IsMpsFeasible n xs
  pub objective : (xs : List ℚ) → mps_objective m xs ≡ mps_objective n xs
  pub sense : m.maximise ≡ n.maximise
