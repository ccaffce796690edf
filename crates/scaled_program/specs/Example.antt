-- A knapsack with three binary variables, and its text.
use Rattle.std.specs.Prelude.{ℕ, ℤ, pos, negsuc, true, List, [], ◌∷◌, ◌++◌, codes}
use Rattle.mps_model.specs.declared.kinds.BoundKind.{BoundKind}
use Rattle.mps_model.specs.Mps.{Entry, Column, Bound, Mps}
use Rattle.exact_numbers.specs.Written.{dec_text}
use Rattle.mps_model.specs.declared.kinds.RowKind.TheVariants.{N, L}
use Rattle.mps_model.specs.declared.kinds.BoundKind.TheVariants.{Lo, Up}

-- m * 10 ^ e, as m and e
abbrev pub Number : Type 0
Number = ℤ × ℤ

abbrev dec : ℤ → ℤ → Number
dec m e = (m, e)

abbrev whole : ℕ → Number
whole n = dec (pos n) (pos 0)

-- how a number is written
abbrev pub spelled : Number → List ℕ
spelled d = dec_text d.0 d.1

abbrev entry : ℕ → Number → Entry Number
entry i d = record { row = i; value = d }

abbrev item : List ℕ → Number → Number → Column Number
item name value weight =
    record { name = name; marked = true; entries = entry 0 value ∷ entry 1 weight ∷ [] }

abbrev bound : BoundKind → ℕ → Number → Bound Number
bound kind j d = record { kind = kind; column = j; value = d }

-- the values 10, 7, 12 and the weights 5, 4, 6.5 of three items, at most 10 in weight
unfoldable pub knapsack : Mps Number
knapsack =
    record {
      name = codes "nl";
      maximise = true;
      rows = record { name = codes "obj"; kind = N } ∷ record { name = codes "c0"; kind = L } ∷ [];
      columns = item (codes "x0") (whole 10) (whole 5) ∷ item (codes "x1") (whole 7) (whole 4)
          ∷ item (codes "x2") (whole 12) (dec (pos 65) (negsuc 0)) ∷ [];
      rhs = entry 1 (whole 10) ∷ [];
      ranges = [];
      bounds = bound Lo 0 (whole 0) ∷ bound Up 0 (whole 1) ∷ bound Lo 1 (whole 0)
          ∷ bound Up 1 (whole 1) ∷ bound Lo 2 (whole 0) ∷ bound Up 2 (whole 1) ∷ [];
    }

-- its text
unfoldable pub knapsack_text : List ℕ
knapsack_text =
    codes "NAME nl\nOBJSENSE\n MAX\nROWS\n N obj\n L c0\n"
    ++ codes "COLUMNS\n M0 'MARKER' 'INTORG'\n x0 obj 10\n x0 c0 5\n x1 obj 7\n x1 c0 4\n"
    ++ codes " x2 obj 12\n x2 c0 6.5\n M1 'MARKER' 'INTEND'\nRHS\n RHS c0 10\n"
    ++ codes "BOUNDS\n LO BND x0 0\n UP BND x0 1\n LO BND x1 0\n UP BND x1 1\n"
    ++ codes " LO BND x2 0\n UP BND x2 1\nENDATA\n"
