-- Scaled linear programs, and the one of a linear program with its factors.
use Rattle.std.specs.Prelude.{ℕ, suc, pos, nat_eq, Bool, false, cond, if◌then◌else◌, List, [], ◌∷◌, ◌++◌, Option, Some, None}
use Rattle.exact_numbers.specs.Rational.{ℚ, whole, is_zero, zero_ℚ, one_ℚ, ◌-ℚ◌, ◌*ℚ◌, neg_ℚ}
use Rattle.linear_program.specs.Linear.{Interval, Form, Row, Variable, Linear, unbounded, variable_count, has_side}

-- a row times its factor, its constant taken to its sides
pub record ScaledRow : Type 0 where
  pub name : List ℕ
  pub coefficient : ℕ → ℚ
  pub side : Interval

-- rows times their factors, variables with their bounds, and an objective
pub record ScaledProgram : Type 0 where
  pub rows : List ScaledRow
  pub objective : Form
  pub variables : List Variable
  pub maximise : Bool

-- a side less the constant, times k
abbrev pub scaled_side : ℚ → ℚ → Option ℚ → Option ℚ
scaled_side k constant None = None
scaled_side k constant (Some s) = Some (k *ℚ (s -ℚ constant))

-- a row times k
abbrev pub scaled_row : ℕ → Row → ScaledRow
scaled_row k r = record {
  name = r.name;
  coefficient = λ j. whole (pos k) *ℚ r.body.coefficient j;
  side = record {
    lower = scaled_side (whole (pos k)) r.body.constant r.side.lower;
    upper = scaled_side (whole (pos k)) r.body.constant r.side.upper;
  };
}

-- the row has a finite side
abbrev pub is_exported : Row → Bool
is_exported r = has_side r.side

-- the rows with a finite side, in order, each times its factor; the first is row i of the linear program
unfoldable pub exported_rows : (ℕ → ℕ) → ℕ → List Row → List ScaledRow
exported_rows factor i [] = []
exported_rows factor i (r ∷ rs) =
    cond (has_side r.side)
    (scaled_row (factor i) r ∷ exported_rows factor (suc i) rs)
    (exported_rows factor (suc i) rs)

-- x, but none where it is 0
abbrev pub nonzero : ℚ → Option ℚ
nonzero x = (if is_zero x then None else Some x)

-- the upper side less the lower, where both are there and differ
abbrev pub range_of : Option ℚ → Option ℚ → Option ℚ
range_of (Some l) (Some u) = nonzero (u -ℚ l)
range_of _ _ = None

-- each row times its factor, the objective as it is
abbrev pub scaled_by : Linear → (ℕ → ℕ) → ScaledProgram
scaled_by f factor = record {
  rows = exported_rows factor 0 f.rows;
  objective = f.objective;
  variables = f.variables;
  maximise = f.maximise;
}

-- ---- an objective that is tied to a column z
-- the text z
abbrev pub z_name : List ℕ
z_name = 122 ∷ []

-- the text zdef
abbrev pub zdef_name : List ℕ
zdef_name = 122 ∷ 100 ∷ 101 ∷ 102 ∷ []

-- the coefficients of the first n variables, and then v
abbrev pub then_at : ℕ → ℚ → (ℕ → ℚ) → ℕ → ℚ
then_at n v c j = cond (nat_eq j n) v (c j)

-- objective - z = 0, z being variable n
abbrev pub tie : ℕ → Form → Row
tie n objective = record {
  name = zdef_name;
  body = record {
    constant = objective.constant;
    coefficient = then_at n (neg_ℚ one_ℚ) objective.coefficient;
  };
  side = record { lower = Some zero_ℚ; upper = Some zero_ℚ };
}

-- a variable with any value
abbrev pub z_variable : Variable
z_variable = record { name = z_name; bound = unbounded; whole = false }

-- z alone
abbrev pub z_form : ℕ → Form
z_form n = record { constant = zero_ℚ; coefficient = then_at n one_ℚ (λ j. zero_ℚ) }

-- z is the last variable and zdef, times g, the last row
abbrev pub scaled_and_tied : Linear → (ℕ → ℕ) → ℕ → ScaledProgram
scaled_and_tied f factor g = record {
  rows = exported_rows factor 0 f.rows ++ scaled_row g (tie (variable_count f) f.objective) ∷ [];
  objective = z_form (variable_count f);
  variables = f.variables ++ z_variable ∷ [];
  maximise = f.maximise;
}
