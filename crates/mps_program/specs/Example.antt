-- A program with four rows, two of which are constraints, for any numbers.
use Rattle.std.specs.Prelude.{ℕ, true, false, List, [], ◌∷◌, codes}
use Rattle.exact_numbers.specs.Rational.{ℚ}
use Rattle.mps_model.specs.Mps.{MpsRow, Entry, Mps}
use Rattle.mps_model.specs.declared.kinds.RowKind.TheVariants.{N, L, G}
use Rattle.mps_model.specs.declared.kinds.BoundKind.TheVariants.{Up}

-- the objective, a constraint, a row that nothing asks for, a constraint
abbrev pub four_rows : List MpsRow
four_rows =
    record { name = codes "cost"; kind = N } ∷ record { name = codes "most"; kind = L }
    ∷ record { name = codes "other"; kind = N } ∷ record { name = codes "least"; kind = G } ∷ []

abbrev entry : ℕ → ℚ → Entry ℚ
entry i x = record { row = i; value = x }

-- a column x, at most u, and a whole column y
abbrev pub two_columns : (p q r s t b c u : ℚ) → Mps ℚ
two_columns p q r s t b c u =
    record {
      name = [];
      maximise = true;
      rows = four_rows;
      columns =
          record { name = codes "x"; marked = false; entries = entry 0 p ∷ entry 1 q ∷ [] }
          ∷ record {
            name = codes "y";
            marked = true;
            entries = entry 2 r ∷ entry 3 s ∷ entry 1 t ∷ [];
          }
          ∷ [];
      rhs = entry 0 b ∷ entry 1 c ∷ [];
      ranges = [];
      bounds = record { kind = Up; column = 0; value = u } ∷ [];
    }
