-- Which MPS programs there are: the rules that their parts obey (own profile).
use Rattle.std.specs.Prelude.{◌≡◌, ◌≢◌, ℕ, ◌<◌, ◌≤◌, ◌^◌, false, ◌&&◌, List, [], ◌∷◌, length, get_or, All, codes}
use Rattle.std.specs.List.{sum_by, AllPairs}
use Rattle.exact_numbers.specs.Rational.{ℚ, zero_ℚ}
use Rattle.text_base.specs.Names.{IsName}
use Rattle.mps_model.specs.Mps.{BoundKind, MpsRow, Entry, Column, Bound, Mps, no_mps_row, sets_lower, sets_upper, objective_row}
use Rattle.mps_model.specs.declared.kinds.RowKind.TheVariants.{N}
use Rattle.mps_model.specs.declared.kinds.BoundKind.TheVariants.{Lo, Up, Fx, Fr, Mi, Pl, Bv, Li, Ui}

-- ---- names
-- the word of a line that begins or ends a marked stretch of columns
abbrev pub marker_word : List ℕ
marker_word = codes "'MARKER'"

-- a program's own name may be empty
abbrev pub IsNameOrEmpty : List ℕ → Type 0
IsNameOrEmpty [] = Unit {0}
IsNameOrEmpty (b ∷ bs) = IsName (b ∷ bs)

-- the row has another name
abbrev pub IsOtherRow : List ℕ → MpsRow → Type 0
IsOtherRow name r = r.name ≢ name

-- no two rows have one name, and none is named as a marker line is
pub record AreRows (rows : List MpsRow) : Type 0 where
  pub few : length rows ≤ 2 ^ 21
  pub named : All (λ r. IsName r.name) rows
  pub apart : AllPairs (λ r s. r.name ≢ s.name) rows
  pub no_marker : All (IsOtherRow marker_word) rows

-- row i is no N row
abbrev pub IsBounded : List MpsRow → ℕ → Type 0
IsBounded rows i = (get_or rows i no_mps_row).kind ≢ N

-- ---- bounds
-- records of these two kinds set no side twice
pub record SetOtherSides (k l : BoundKind) : Type 0 where
  pub lower : (sets_lower k && sets_lower l) ≡ false
  pub upper : (sets_upper k && sets_upper l) ≡ false

-- FR, MI, PL and BV have no number of their own
abbrev pub IsWithoutNumber : BoundKind → Type 0
IsWithoutNumber Fr = Unit {0}
IsWithoutNumber Mi = Unit {0}
IsWithoutNumber Pl = Unit {0}
IsWithoutNumber Bv = Unit {0}
IsWithoutNumber Lo = ⊥
IsWithoutNumber Up = ⊥
IsWithoutNumber Fx = ⊥
IsWithoutNumber Li = ⊥
IsWithoutNumber Ui = ⊥

module _ {V : Type 0} where
  -- the entry is in another row than row i
  abbrev pub IsOtherEntry : ℕ → Entry V → Type 0
  IsOtherEntry i e = e.row ≢ i

  -- entries of a column, right sides or ranges: each in one of n rows, no two in one row
  pub record AreEntries (n : ℕ) (entries : List (Entry V)) : Type 0 where
    pub within : All (λ e. e.row < n) entries
    pub apart : AllPairs (λ e g. e.row ≢ g.row) entries

  -- the column has another name
  abbrev pub IsOtherColumn : List ℕ → Column V → Type 0
  IsOtherColumn name c = c.name ≢ name

  -- how many entries the columns have together
  abbrev pub entry_count : List (Column V) → ℕ
  entry_count columns = sum_by (λ c. length c.entries) columns

  -- no two columns have one name; n is the number of rows
  pub record AreColumns (n : ℕ) (columns : List (Column V)) : Type 0 where
    pub few : length columns ≤ 2 ^ 21
    pub few_entries : entry_count columns ≤ 2 ^ 24
    pub named : All (λ c. IsName c.name) columns
    pub apart : AllPairs (λ c d. c.name ≢ d.name) columns
    pub entries : All (λ c. AreEntries n c.entries) columns

  -- no range is in an N row
  pub record AreRanges (rows : List MpsRow) (ranges : List (Entry V)) : Type 0 where
    pub entries : AreEntries (length rows) ranges
    pub bounded : All (λ e. IsBounded rows e.row) ranges

  -- a record of this kind for column j sets no side that b sets
  abbrev pub IsOtherBound : BoundKind → ℕ → Bound V → Type 0
  IsOtherBound kind j b = b.column ≡ j → SetOtherSides b.kind kind

  -- no side of one of n columns is set twice; value is what a number means
  pub record AreBounds (value : V → ℚ) (n : ℕ) (bounds : List (Bound V)) : Type 0 where
    pub within : All (λ b. b.column < n) bounds
    pub apart : AllPairs (λ b c. IsOtherBound c.kind c.column b) bounds
    pub zeros : All (λ b. IsWithoutNumber b.kind → value b.value ≡ zero_ℚ) bounds

  -- a program that may lack its objective, and entries of its columns
  pub record IsPartOfMps (value : V → ℚ) (m : Mps V) : Type 0 where
    pub name : IsNameOrEmpty m.name
    pub rows : AreRows m.rows
    pub columns : AreColumns (length m.rows) m.columns
    pub rhs : AreEntries (length m.rows) m.rhs
    pub ranges : AreRanges m.rows m.ranges
    pub bounds : AreBounds value (length m.columns) m.bounds

  -- the column has an entry
  abbrev pub HasEntries : Column V → Type 0
  HasEntries c = 0 < length c.entries

  -- it has an N row, and each column has an entry
  pub record IsComplete (m : Mps V) : Type 0 where
    pub objective : objective_row m.rows < length m.rows
    pub filled : All HasEntries m.columns

  -- a whole program
  pub record IsMps (value : V → ℚ) (m : Mps V) : Type 0 where
    pub part : IsPartOfMps value m
    pub complete : IsComplete m
