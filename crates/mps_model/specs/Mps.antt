-- MPS programs, and what they mean (the usual MPS manuals; the signs of ranges and of upper bounds
-- below 0 are an own profile). Whole columns without bounds go from 0 on without end; cbc and glpsol
-- take 0 and 1. Both keep the lower side 0 under a UI below 0, glpsol under a UP below 0 too, and
-- under a LO or MI alone glpsol ends a marked column at 1.
use Rattle.std.specs.Prelude.{ℕ, suc, ◌<◌, pos, int_lt, nat_eq, Bool, true, false, cond, ◌||◌, ◌&&◌, IsTrue, List, [], ◌∷◌, length, map, get_or, Option, Some, None}
pub use Rattle.exact_numbers.specs.Functions.{or_zero}
use Rattle.exact_numbers.specs.Rational.{ℚ, zero_ℚ, one_ℚ, ◌+ℚ◌, ◌-ℚ◌, ◌*ℚ◌, neg_ℚ, IsWhole}
use Rattle.exact_numbers.specs.Sums.{sum_over, sum_below}
pub use Rattle.mps_model.specs.declared.kinds.RowKind.{RowKind}
use Rattle.mps_model.specs.declared.kinds.RowKind.TheVariants.{N, L, G, E}
pub use Rattle.mps_model.specs.declared.kinds.BoundKind.{BoundKind}
use Rattle.mps_model.specs.declared.kinds.BoundKind.TheVariants.{Lo, Up, Fx, Fr, Mi, Pl, Bv, Li, Ui}
use Rattle.linear_program.specs.Linear.{Interval, IsInside, unbounded, value_at}

-- a row: its name and its kind
pub record MpsRow : Type 0 where
  pub name : List ℕ
  pub kind : RowKind

-- a value at a row
pub record Entry (V : Type 0) : Type 0 where
  pub row : ℕ
  pub value : V

-- a column: its name, whether it stands in a marked stretch, its entries
pub record Column (V : Type 0) : Type 0 where
  pub name : List ℕ
  pub marked : Bool
  pub entries : List (Entry V)

-- a bound of a column
pub record Bound (V : Type 0) : Type 0 where
  pub kind : BoundKind
  pub column : ℕ
  pub value : V

-- a program whose numbers are of the type V: decimals as they are written, or fractions, their
-- values
pub record Mps (V : Type 0) : Type 0 where
  pub name : List ℕ
  pub maximise : Bool
  pub rows : List MpsRow
  pub columns : List (Column V)
  pub rhs : List (Entry V)
  pub ranges : List (Entry V)
  pub bounds : List (Bound V)

-- the program of the values
abbrev pub entry_with : {V W : Type 0} → (V → W) → Entry V → Entry W
entry_with v e = record { row = e.row; value = v e.value }

-- a column of the values
abbrev pub column_with : {V W : Type 0} → (V → W) → Column V → Column W
column_with v c =
    record { name = c.name; marked = c.marked; entries = map (entry_with v) c.entries }

-- a bound of the value
abbrev pub bound_with : {V W : Type 0} → (V → W) → Bound V → Bound W
bound_with v b = record { kind = b.kind; column = b.column; value = v b.value }

-- a program of the values
unfoldable pub with_values : {V W : Type 0} → (V → W) → Mps V → Mps W
with_values v m =
    record {
      name = m.name;
      maximise = m.maximise;
      rows = m.rows;
      columns = map (column_with v) m.columns;
      rhs = map (entry_with v) m.rhs;
      ranges = map (entry_with v) m.ranges;
      bounds = map (bound_with v) m.bounds;
    }

-- ---- meaning
-- x is below 0
abbrev pub is_negative : ℚ → Bool
is_negative x = int_lt x.top (pos 0)

-- the size of x, without its sign
abbrev pub size_of : ℚ → ℚ
size_of x = cond (is_negative x) (neg_ℚ x) x

-- the first value that the records give for a row
unfoldable pub at_row : {V : Type 0} → ℕ → List (Entry V) → Option V
at_row i [] = None
at_row i (e ∷ es) = cond (nat_eq e.row i) (Some e.value) (at_row i es)

-- nothing asks for a column past the last
abbrev pub no_column : {V : Type 0} → Column V
no_column = record { name = []; marked = false; entries = [] }

-- column j
abbrev pub column_at : Mps ℚ → ℕ → Column ℚ
column_at m j = get_or m.columns j no_column

-- the sum of a column's entries in row i, each times x
unfoldable pub part_of_row : ℕ → List (Entry ℚ) → ℚ → ℚ
part_of_row i entries x = sum_over (λ e. cond (nat_eq e.row i) (e.value *ℚ x) zero_ℚ) entries

-- the sum of all entries of row i, each times its column's value
unfoldable pub row_value : Mps ℚ → List ℚ → ℕ → ℚ
row_value m xs i =
    sum_below (λ j. part_of_row i (column_at m j).entries (value_at xs j)) (length m.columns)

-- the interval of a row with the right side b
abbrev pub row_sides : RowKind → ℚ → Option ℚ → Interval
row_sides N b range = unbounded
row_sides L b None = record { lower = None; upper = Some b }
row_sides L b (Some r) = record { lower = Some (b -ℚ size_of r); upper = Some b }
row_sides G b None = record { lower = Some b; upper = None }
row_sides G b (Some r) = record { lower = Some b; upper = Some (b +ℚ size_of r) }
row_sides E b None = record { lower = Some b; upper = Some b }
row_sides E b (Some r) =
    cond (is_negative r) (record { lower = Some (b +ℚ r); upper = Some b })
    (record { lower = Some b; upper = Some (b +ℚ r) })

-- nothing asks for a row past the last
abbrev pub no_mps_row : MpsRow
no_mps_row = record { name = []; kind = N }

-- the right side of row i; 0 where none is given
abbrev pub rhs_at : Mps ℚ → ℕ → ℚ
rhs_at m i = or_zero (at_row i m.rhs)

-- the interval of row i
abbrev pub row_interval : Mps ℚ → ℕ → Interval
row_interval m i = row_sides (get_or m.rows i no_mps_row).kind (rhs_at m i) (at_row i m.ranges)

-- a side of a column, as records set it: not at all, without end, or at a value
pub data Side : Type 0 where
  Unset : Side
  Open : Side
  At : ℚ → Side

-- the sides that records set
pub record SetSides : Type 0 where
  pub lower : Side
  pub upper : Side

-- the sides that a record sets
abbrev pub sets : BoundKind → ℚ → SetSides
sets Lo v = record { lower = At v; upper = Unset }
sets Up v = record { lower = Unset; upper = At v }
sets Fx v = record { lower = At v; upper = At v }
sets Fr v = record { lower = Open; upper = Open }
sets Mi v = record { lower = Open; upper = Unset }
sets Pl v = record { lower = Unset; upper = Open }
sets Bv v = record { lower = At zero_ℚ; upper = At one_ℚ }
sets Li v = record { lower = At v; upper = Unset }
sets Ui v = record { lower = Unset; upper = At v }

-- the side is set
abbrev pub is_set : Side → Bool
is_set Unset = false
is_set side = true

-- a record of this kind sets the lower side, and the upper one
abbrev pub sets_lower : BoundKind → Bool
sets_lower kind = is_set (sets kind zero_ℚ).lower

abbrev pub sets_upper : BoundKind → Bool
sets_upper kind = is_set (sets kind zero_ℚ).upper

-- the first of two sides that is set
abbrev pub first_side : Side → Side → Side
first_side Unset other = other
first_side side other = side

abbrev pub first_sides : SetSides → SetSides → SetSides
first_sides s t =
    record { lower = first_side s.lower t.lower; upper = first_side s.upper t.upper }

-- the sides of column j: the first record that sets a side decides it
unfoldable pub sides_set : ℕ → List (Bound ℚ) → SetSides
sides_set j [] = record { lower = Unset; upper = Unset }
sides_set j (b ∷ bs) =
    cond (nat_eq b.column j) (first_sides (sets b.kind b.value) (sides_set j bs)) (sides_set j bs)

-- an unset lower side is 0, but open where the upper one is at a value below 0
abbrev pub lower_side : Side → Side → Option ℚ
lower_side Unset (At u) = cond (is_negative u) None (Some zero_ℚ)
lower_side Unset upper = Some zero_ℚ
lower_side Open upper = None
lower_side (At v) upper = Some v

-- an unset upper side is open
abbrev pub upper_side : Side → Option ℚ
upper_side (At v) = Some v
upper_side side = None

-- the interval of sides that are set
abbrev pub interval_set : SetSides → Interval
interval_set s = record { lower = lower_side s.lower s.upper; upper = upper_side s.upper }

-- the interval of column j
abbrev pub column_interval : Mps ℚ → ℕ → Interval
column_interval m j = interval_set (sides_set j m.bounds)

-- a record of this kind makes its column whole
abbrev pub makes_whole : BoundKind → Bool
makes_whole Bv = true
makes_whole Li = true
makes_whole Ui = true
makes_whole _ = false

-- column j has a record that makes it whole
unfoldable pub has_whole_record : ℕ → List (Bound ℚ) → Bool
has_whole_record j [] = false
has_whole_record j (b ∷ bs) = (nat_eq b.column j && makes_whole b.kind) || has_whole_record j bs

-- column j is marked, or a record makes it whole
abbrev pub is_whole_column : Mps ℚ → ℕ → Bool
is_whole_column m j = (column_at m j).marked || has_whole_record j m.bounds

-- every row is in its interval, every column in its bounds, and every whole column is whole
pub record IsMpsFeasible (m : Mps ℚ) (xs : List ℚ) : Type 0 where
  pub rows : (i : ℕ) → i < length m.rows → IsInside (row_interval m i) (row_value m xs i)
  pub bounds : (j : ℕ) → j < length m.columns → IsInside (column_interval m j) (value_at xs j)
  pub whole : (j : ℕ) → j < length m.columns → IsTrue (is_whole_column m j)
      → IsWhole (value_at xs j)

-- the place of the first N row
unfoldable pub objective_row : List MpsRow → ℕ
objective_row [] = 0
objective_row (r ∷ rs) =
    elim r.kind [
      | N ↦ 0
      | L ↦ suc (objective_row rs)
      | G ↦ suc (objective_row rs)
      | E ↦ suc (objective_row rs)
    ]

-- the value of the first N row less its right side
abbrev pub mps_objective : Mps ℚ → List ℚ → ℚ
mps_objective m xs = row_value m xs (objective_row m.rows) -ℚ rhs_at m (objective_row m.rows)
