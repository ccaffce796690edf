-- A linear program as a file gives it: rows and variables with sides, and an objective.
use Rattle.std.specs.Prelude.{◌≡◌, ℕ, ◌<◌, ◌≤◌, Bool, ◌||◌, IsTrue, is_some, List, length, get_or, Option, None, IfSome, All}
use Rattle.exact_numbers.specs.Rational.{ℚ, zero_ℚ, ◌+ℚ◌, ◌*ℚ◌, ◌≤ℚ◌, IsWhole}
use Rattle.exact_numbers.specs.Sums.{sum_below}

-- two sides, each of which may be missing
pub record Interval : Type 0 where
  pub lower : Option ℚ
  pub upper : Option ℚ

-- sides count as inside
pub record IsInside (s : Interval) (x : ℚ) : Type 0 where
  pub above : IfSome s.lower (λ l. l ≤ℚ x)
  pub below : IfSome s.upper (λ u. x ≤ℚ u)

-- the lower side is not above the upper
abbrev pub AreOrdered : Option ℚ → Option ℚ → Type 0
AreOrdered lower upper = IfSome lower (λ l. IfSome upper (λ u. l ≤ℚ u))

abbrev pub unbounded : Interval
unbounded = record { lower = None; upper = None }

-- one of the sides is there
abbrev pub has_side : Interval → Bool
has_side s = is_some s.lower || is_some s.upper

-- constant + coefficient 0 * x0 + coefficient 1 * x1 + ..
pub record Form : Type 0 where
  pub constant : ℚ
  pub coefficient : ℕ → ℚ

pub record Row : Type 0 where
  pub name : List ℕ
  pub body : Form
  pub side : Interval

pub record Variable : Type 0 where
  pub name : List ℕ
  pub bound : Interval
  pub whole : Bool

pub record Linear : Type 0 where
  pub rows : List Row
  pub variables : List Variable
  pub objective : Form
  pub maximise : Bool

-- variable j at an assignment, which lists a number for each variable; a list that is too short has
-- 0 for the rest, and what stands past the last variable is not looked at: so two lists may be the
-- same point
abbrev pub value_at : List ℚ → ℕ → ℚ
value_at xs j = get_or xs j zero_ℚ

-- the sum of n variables' coefficients times their values
unfoldable pub linear_part : (ℕ → ℚ) → ℕ → List ℚ → ℚ
linear_part coefficient n xs = sum_below (λ j. coefficient j *ℚ value_at xs j) n

abbrev pub form_value : Form → ℕ → List ℚ → ℚ
form_value form n xs = form.constant +ℚ linear_part form.coefficient n xs

-- nothing asks for a variable past the last
abbrev pub no_variable : Variable
no_variable = record { name = List.[]; bound = unbounded; whole = Bool.false }

abbrev pub variable_at : Linear → ℕ → Variable
variable_at f j = get_or f.variables j no_variable

abbrev pub variable_count : Linear → ℕ
variable_count f = length f.variables

abbrev pub zero_form : Form
zero_form = record { constant = zero_ℚ; coefficient = λ j. zero_ℚ }

-- nothing asks for a row past the last
abbrev pub no_row : Row
no_row = record { name = List.[]; body = zero_form; side = unbounded }

abbrev pub row_at : Linear → ℕ → Row
row_at f i = get_or f.rows i no_row

abbrev pub row_count : Linear → ℕ
row_count f = length f.rows

abbrev pub RowHolds : ℕ → List ℚ → Row → Type 0
RowHolds n xs r = IsInside r.side (form_value r.body n xs)

-- every row and every variable is within its sides
pub record IsRelaxed (f : Linear) (xs : List ℚ) : Type 0 where
  pub rows : All (RowHolds (variable_count f) xs) f.rows
  pub bounds : (j : ℕ) → j < variable_count f → IsInside (variable_at f j).bound (value_at xs j)

-- moreover each whole variable is whole
pub record IsFeasible (f : Linear) (xs : List ℚ) : Type 0 where
  pub relaxed : IsRelaxed f xs
  pub whole : (j : ℕ) → j < variable_count f → IsTrue (variable_at f j).whole
      → IsWhole (value_at xs j)

abbrev pub objective_value : Linear → List ℚ → ℚ
objective_value f xs = form_value f.objective (variable_count f) xs

-- what holds of the program of each file: no lower side is above its upper side, and no row has a
-- coefficient past the last variable
pub record IsLinear (f : Linear) : Type 0 where
  pub ordered : All (λ r. AreOrdered r.side.lower r.side.upper) f.rows
  pub within : All (λ r. (j : ℕ) → variable_count f ≤ j → r.body.coefficient j ≡ zero_ℚ) f.rows
