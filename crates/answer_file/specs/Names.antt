-- The names by which an answer names columns, rows and objects: own profile.
use Rattle.std.specs.Prelude.{◌≡◌, ℕ, Bool, false, List, [], ◌∷◌, length, map, count_by, get_or, Option, Some, None, option_map, option_and_then, if◌then◌else◌, codes}
use Rattle.std.specs.Fmt.{decimal}
use Rattle.std.specs.Str.{bytes_eq}
use Rattle.linear_program.specs.Intervals.{is_sided}
use Rattle.nl_model.specs.File.{File}
use Rattle.nl_model.specs.declared.suffix_kinds.Objects.{Objects}
use Rattle.nl_model.specs.declared.suffix_kinds.Objects.TheVariants.{Variables, Constraints, Objectives, Problem}
use Rattle.mps_model.specs.Names.{index_named}
use Rattle.answer_file.specs.declared.naming.Naming.{Naming}
use Rattle.answer_file.specs.declared.naming.Naming.TheVariants.{Numbered, Listed}
use Rattle.answer_file.specs.declared.target.Target.{Target}
use Rattle.answer_file.specs.declared.target.Target.TheVariants.{Tied, Place}

-- what of a file an answer is judged by: how its columns and rows are named, how many columns it
-- has, and which of its rows are exported: those with a side
pub record Setting : Type 0 where
  pub naming : Naming
  pub columns : ℕ
  pub exported : List Bool

-- an answer for the file that names its columns and rows so
abbrev pub setting_by : Naming → File → Setting
setting_by naming f = record {
  naming = naming;
  columns = f.counts.n_var;
  exported = map is_sided f.sides;
}

-- by numbers
abbrev pub setting_of : File → Setting
setting_of f = setting_by Numbered f

-- by the names of these lists
abbrev pub named_setting : File → List (List ℕ) → List (List ℕ) → Setting
named_setting f rows columns = setting_by (Listed rows columns) f

-- ---- names

-- x and the number
abbrev pub column_name : Naming → ℕ → List ℕ
column_name Numbered j = 120 ∷ decimal j
column_name (Listed rows columns) j = get_or columns j []

-- c and the number
abbrev pub row_name : Naming → ℕ → List ℕ
row_name Numbered i = 99 ∷ decimal i
row_name (Listed rows columns) i = get_or rows i []

-- the column and the row that tie the objective
abbrev pub tied_column : Naming → List ℕ
tied_column Numbered = codes "z"
tied_column (Listed rows columns) = codes "@z"

abbrev pub tied_row : Naming → List ℕ
tied_row Numbered = codes "zdef"
tied_row (Listed rows columns) = codes "@zdef"

-- a list of columns names n of them, and one of rows n
abbrev pub NamesColumns : Naming → ℕ → Type 0
NamesColumns Numbered n = Unit {0}
NamesColumns (Listed rows columns) n = length columns ≡ n

abbrev pub NamesRows : Naming → ℕ → Type 0
NamesRows Numbered n = Unit {0}
NamesRows (Listed rows columns) n = length rows ≡ n

-- ---- what a name stands for

abbrev pub column_target : Setting → List ℕ → Option Target
column_target s text =
    if bytes_eq text (tied_column s.naming) then Some Tied
    else option_map Place (index_named (column_name s.naming) s.columns text)

-- the row of this number, if it is exported
abbrev pub if_exported : List Bool → ℕ → Option Target
if_exported exported i = if get_or exported i false then Some (Place i) else None

-- only rows that are exported have a name in an answer
abbrev pub row_target : Setting → List ℕ → Option Target
row_target s text =
    if bytes_eq text (tied_row s.naming) then Some Tied
    else option_and_then (if_exported s.exported)
    (index_named (row_name s.naming) (length s.exported) text)

-- the one thing of this name
abbrev pub only : List ℕ → List ℕ → Option Target
only name text = if bytes_eq text name then Some (Place 0) else None

-- the object of a suffix for such objects; of objectives there is one, whose number is known at the
-- end
abbrev pub object_target : Setting → Objects → List ℕ → Option Target
object_target s Variables text = column_target s text
object_target s Constraints text = row_target s text
object_target s Objectives text = only (codes "obj") text
object_target s Problem text = only (codes "problem") text

-- how many rows are exported
abbrev pub exported_count : Setting → ℕ
exported_count s = count_by (λ e. e) s.exported
