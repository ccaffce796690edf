-- How the lists of an MPS program are seen, and when a part may be added.
use Rattle.std.specs.Prelude.{◌≡◌, ◌≢◌, ℕ, ◌+◌, ◌<◌, ◌≤◌, ◌^◌, Bool, List, [], ◌∷◌, ◌++◌, length, map, Option, Some, None, All}
use Rattle.exact_numbers.specs.Rational.{zero_ℚ}
use Rattle.exact_numbers.specs.declared.dec.Dec.{Dec}
use Rattle.exact_numbers.specs.Values.{dec_value}
use Rattle.mps_model.specs.declared.kinds.BoundKind.{BoundKind}
use Rattle.mps_model.specs.Mps.{MpsRow, Entry, Column, Bound, Mps}
use Rattle.mps_model.specs.Valid.{marker_word, IsOtherRow, IsOtherColumn, IsOtherEntry, IsOtherBound, IsBounded, IsWithoutNumber, AreEntries, entry_count}

-- a row and its value
abbrev pub entry_of : ℕ × Dec → Entry Dec
entry_of t = record { row = t.0; value = t.1 }

-- a kind, a column and a value
abbrev pub bound_of : BoundKind × ℕ × Dec → Bound Dec
bound_of t = record { kind = t.0; column = t.1; value = t.2 }

-- no name is the empty one
abbrev pub or_empty : Option (List ℕ) → List ℕ
or_empty None = []
or_empty (Some name) = name

-- the value of the parts of a program
abbrev pub mps_of : Option (List ℕ) → Bool → List MpsRow → List (Column Dec) → List (ℕ × Dec)
    → List (ℕ × Dec) → List (BoundKind × ℕ × Dec) → Mps Dec
mps_of name maximise rows columns rhs ranges bounds =
    record {
      name = or_empty name;
      maximise = maximise;
      rows = rows;
      columns = columns;
      rhs = map entry_of rhs;
      ranges = map entry_of ranges;
      bounds = map bound_of bounds;
    }

-- with one entry more in the last column
abbrev pub with_entry_last : Entry Dec → List (Column Dec) → List (Column Dec)
with_entry_last e [] = []
with_entry_last e (c ∷ []) = record c { entries = c.entries ++ e ∷ [] } ∷ []
with_entry_last e (c ∷ d ∷ cs) = c ∷ with_entry_last e (d ∷ cs)

-- the entries of the last column
abbrev pub last_entries : List (Column Dec) → List (Entry Dec)
last_entries [] = []
last_entries (c ∷ []) = c.entries
last_entries (c ∷ d ∷ cs) = last_entries (d ∷ cs)

-- ---- when a part may be added
pub record CanAddRow (m : Mps Dec) (name : List ℕ) : Type 0 where
  pub few : length m.rows < 2 ^ 21
  pub no_marker : name ≢ marker_word
  pub new : All (IsOtherRow name) m.rows

-- a column of a new name
pub record CanAddColumn (m : Mps Dec) (name : List ℕ) : Type 0 where
  pub few : length m.columns < 2 ^ 21
  pub new : All (IsOtherColumn name) m.columns

-- the entries of a new column: each in a row of the program, no two in one row
pub record CanAddEntries (m : Mps Dec) (entries : List (ℕ × Dec)) : Type 0 where
  pub few : entry_count m.columns + length entries ≤ 2 ^ 24
  pub rows : AreEntries (length m.rows) (map entry_of entries)

-- to the last column
pub record CanAddEntry (m : Mps Dec) (row : ℕ) : Type 0 where
  pub some : 0 < length m.columns
  pub within : row < length m.rows
  pub few : entry_count m.columns < 2 ^ 24
  pub new : All (IsOtherEntry row) (last_entries m.columns)

-- the first right side of a row
pub record CanAddRhs (m : Mps Dec) (row : ℕ) : Type 0 where
  pub within : row < length m.rows
  pub new : All (IsOtherEntry row) m.rhs

-- the first range of a row that is no N row
pub record CanAddRange (m : Mps Dec) (row : ℕ) : Type 0 where
  pub within : row < length m.rows
  pub bounded : IsBounded m.rows row
  pub new : All (IsOtherEntry row) m.ranges

-- a bound that sets no side again
pub record CanAddBound (m : Mps Dec) (kind : BoundKind) (column : ℕ) (value : Dec) : Type 0 where
  pub within : column < length m.columns
  pub new : All (IsOtherBound kind column) m.bounds
  pub zero : IsWithoutNumber kind → dec_value value ≡ zero_ℚ
