-- Columns and bounds of a program, added one by one.
use Rattle.std.specs.Prelude.{◌≡◌, ℕ, ◌+◌, ◌<◌, List, [], ◌∷◌, ◌++◌, map, Bool, All, Option, Some, None, IfSome}
use Rattle.std.specs.List.{AllPairs}
use Rattle.exact_numbers.specs.Rational.{ℚ, zero_ℚ}
use Rattle.mps_model.specs.declared.kinds.BoundKind.{BoundKind}
use Rattle.mps_model.specs.Mps.{Column, Bound, Mps, bound_with}
use Rattle.mps_model.specs.Valid.{IsWithoutNumber, SetOtherSides}
use Rattle.mps_model.specs.Built.{entry_of}
use Rattle.exact_numbers.specs.declared.dec.Dec.{Dec}
use Rattle.exact_numbers.specs.Values.{dec_value}
use Rattle.scaled_program.specs.ExportedProgram.{bound_record, column_bounds}
use Rattle.linear_program.specs.Decimals.{DecimalTerm as TermOf}
use Rattle.linear_program.specs.declared.interval.Interval.{Interval}
use Rattle.row_scaling.specs.Rows.{side_value}

-- e alone, where there is none
abbrev pub or_first : {A : Type 0} → A → List A → List A
or_first e [] = e ∷ []
or_first e (d ∷ ds) = d ∷ ds

-- the column of a name and of entries; without entries it gets this number in row 0
abbrev pub column_from : List ℕ → Bool → List TermOf → Dec → Column Dec
column_from name marked entries zero =
    record {
      name = name;
      marked = marked;
      entries = or_first (record { row = 0; value = zero }) (map entry_of entries);
    }

-- with one column more
abbrev pub with_column : Mps Dec → Column Dec → Mps Dec
with_column m c = record m { columns = m.columns ++ c ∷ [] }

-- the entries stand in rising rows, of which there are n
pub record AreRising (n : ℕ) (entries : List TermOf) : Type 0 where
  pub within : All (λ t. t.0 < n) entries
  pub rising : AllPairs (λ s t. s.0 < t.0) entries

-- these records are added for column j, and no column after j has one
pub record AreBoundsAdded (j : ℕ) (records : List (Bound ℚ)) (old now : List (Bound Dec)) : Type 0
  where
    pub value : map (bound_with dec_value) now ≡ map (bound_with dec_value) old ++ records
    pub before : All (λ b. b.column < j + 1) now

-- a kind of bound and its number
abbrev pub KindOfBound : Type 0
KindOfBound = BoundKind × Dec

-- the bound of column j of a kind and a number
abbrev pub bound_at : ℕ → KindOfBound → Bound ℚ
bound_at j b = bound_record b.0 j (dec_value b.1)

-- the bounds of column j: a first one, and a second one where there is one
abbrev pub bounds_at : ℕ → KindOfBound → Option KindOfBound → List (Bound ℚ)
bounds_at j first None = bound_at j first ∷ []
bounds_at j first (Some second) = bound_at j first ∷ bound_at j second ∷ []

-- kinds that have no number of their own come with 0
abbrev pub IsZeroWithout : KindOfBound → Type 0
IsZeroWithout b = IsWithoutNumber b.0 → dec_value b.1 ≡ zero_ℚ

-- these are the bounds of a column of these sides
pub record AreBoundsOf (side : Interval) (first : KindOfBound) (second : Option KindOfBound)
    : Type 0 where
  pub records : (j : ℕ) →
      bounds_at j first second ≡ column_bounds j (side_value side.lo) (side_value side.hi)
  pub zero : IsZeroWithout first
  pub zero_too : IfSome second IsZeroWithout
  pub apart : IfSome second (λ b. SetOtherSides first.0 b.0)
