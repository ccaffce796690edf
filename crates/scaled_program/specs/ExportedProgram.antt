-- The MPS program of a scaled program.
use Rattle.std.specs.Prelude.{◌≡◌, ℕ, suc, List, [], ◌∷◌, ◌++◌, map, Option, Some, None}
use Rattle.exact_numbers.specs.Rational.{ℚ, zero_ℚ, ◌-ℚ◌, neg_ℚ}
use Rattle.linear_program.specs.Linear.{Form, Variable, Linear}
use Rattle.exact_numbers.specs.declared.dec.Dec.{Dec}
use Rattle.exact_numbers.specs.Values.{dec_value}
use Rattle.mps_model.specs.declared.kinds.RowKind.{RowKind}
use Rattle.mps_model.specs.declared.kinds.BoundKind.{BoundKind}
use Rattle.mps_model.specs.Mps.{MpsRow, Entry, Column, Bound, Mps, with_values}
use Rattle.mps_model.specs.declared.kinds.RowKind.TheVariants.{N, L, G, E}
use Rattle.mps_model.specs.declared.kinds.BoundKind.TheVariants.{Lo, Up, Fx, Fr, Mi, Pl}
use Rattle.scaled_program.specs.Program.{ScaledProgram, ScaledRow, scaled_by, scaled_and_tied, nonzero, range_of}
use Rattle.scaled_program.specs.Fits.{IsDecimal, factor_of_row, factor_of_objective}
use Rattle.scaled_program.specs.Return.{place_of}

-- the lower side, or else the upper
abbrev pub rhs_of : Option ℚ → Option ℚ → ℚ
rhs_of None None = zero_ℚ
rhs_of None (Some u) = u
rhs_of (Some l) u = l

-- E where there is no range
abbrev pub two_sided : Option ℚ → RowKind
two_sided None = E
two_sided (Some r) = G

-- E where the sides are equal, G with a lower side, L with an upper one alone
abbrev pub kind_of_row : Option ℚ → Option ℚ → RowKind
kind_of_row None None = N
kind_of_row None (Some u) = L
kind_of_row (Some l) None = G
kind_of_row (Some l) (Some u) = two_sided (nonzero (u -ℚ l))

-- name and kind of a row
abbrev pub mps_row : ScaledRow → MpsRow
mps_row r = record { name = r.name; kind = kind_of_row r.side.lower r.side.upper }

-- with an entry in row i in front, where there is a value
abbrev pub with_entry : ℕ → Option ℚ → List (Entry ℚ) → List (Entry ℚ)
with_entry i None es = es
with_entry i (Some v) es = record { row = i; value = v } ∷ es

-- what g gives for rows in order, of which the first is row i of the program
unfoldable pub entries_of : (ScaledRow → Option ℚ) → ℕ → List ScaledRow → List (Entry ℚ)
entries_of g i [] = []
entries_of g i (r ∷ rs) = with_entry i (g r) (entries_of g (suc i) rs)

-- a column without entries gets a 0 in the objective
abbrev pub or_obj_zero : List (Entry ℚ) → List (Entry ℚ)
or_obj_zero [] = record { row = 0; value = zero_ℚ } ∷ []
or_obj_zero (e ∷ es) = e ∷ es

-- the entries of variable j: of the objective, then of the rows in order
abbrev pub column_entries : Form → List ScaledRow → ℕ → List (Entry ℚ)
column_entries objective rows j =
    or_obj_zero (with_entry 0 (nonzero (objective.coefficient j))
    (entries_of (λ r. nonzero (r.coefficient j)) 1 rows))

-- a column for each variable, of which the first is variable j
unfoldable pub columns_of : Form → List ScaledRow → ℕ → List Variable → List (Column ℚ)
columns_of objective rows j [] = []
columns_of objective rows j (v ∷ vs) =
    record { name = v.name; marked = v.whole; entries = column_entries objective rows j }
    ∷ columns_of objective rows (suc j) vs

-- a bound of column j
abbrev pub bound_record : BoundKind → ℕ → ℚ → Bound ℚ
bound_record kind j v = record { kind = kind; column = j; value = v }

-- FX where the sides do not differ
abbrev pub fixed_or_both : ℕ → ℚ → ℚ → Option ℚ → List (Bound ℚ)
fixed_or_both j l u None = bound_record Fx j l ∷ []
fixed_or_both j l u (Some r) = bound_record Lo j l ∷ bound_record Up j u ∷ []

-- both sides by name
abbrev pub column_bounds : ℕ → Option ℚ → Option ℚ → List (Bound ℚ)
column_bounds j None None = bound_record Fr j zero_ℚ ∷ []
column_bounds j None (Some u) = bound_record Mi j zero_ℚ ∷ bound_record Up j u ∷ []
column_bounds j (Some l) None = bound_record Lo j l ∷ bound_record Pl j zero_ℚ ∷ []
column_bounds j (Some l) (Some u) = fixed_or_both j l u (nonzero (u -ℚ l))

-- the bounds of the variables, of which the first is variable j
unfoldable pub bounds_of : ℕ → List Variable → List (Bound ℚ)
bounds_of j [] = []
bounds_of j (v ∷ vs) = column_bounds j v.bound.lower v.bound.upper ++ bounds_of (suc j) vs

-- the text nl
abbrev pub nl_name : List ℕ
nl_name = 110 ∷ 108 ∷ []

-- the text obj
abbrev pub obj_name : List ℕ
obj_name = 111 ∷ 98 ∷ 106 ∷ []

-- the MPS program of a scaled program
unfoldable pub mps_of : ScaledProgram → Mps ℚ
mps_of s = record {
  name = nl_name;
  maximise = s.maximise;
  rows = record { name = obj_name; kind = N } ∷ map mps_row s.rows;
  columns = columns_of s.objective s.rows 0 s.variables;
  rhs = with_entry 0 (nonzero (neg_ℚ s.objective.constant))
      (entries_of (λ r. nonzero (rhs_of r.side.lower r.side.upper)) 1 s.rows);
  ranges = entries_of (λ r. range_of r.side.lower r.side.upper) 1 s.rows;
  bounds = bounds_of 0 s.variables;
}

-- ---- of a linear program
-- the program of an objective with finite decimals
abbrev pub program : Linear → (ℕ → ℕ) → Mps ℚ
program f factor = mps_of (scaled_by f factor)

-- the program with a tied objective
abbrev pub tied_program : Linear → (ℕ → ℕ) → ℕ → Mps ℚ
tied_program f factor g = mps_of (scaled_and_tied f factor g)

-- the decimal program that a linear program is exported as
pub record IsProgramOf (f : Linear) (m : Mps Dec) : Type 0 where
  pub plain : IsDecimal f → with_values dec_value m ≡ program f (factor_of_row f)
  pub tied : ¬ IsDecimal f
      → with_values dec_value m ≡ tied_program f (factor_of_row f) (factor_of_objective f)

-- the row of the program that row i becomes; row 0 is the objective
abbrev pub program_row : Linear → ℕ → ℕ
program_row f i = suc (place_of f.rows i)
