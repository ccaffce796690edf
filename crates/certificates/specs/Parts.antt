-- Parts of a linear program, and the cuts between them: a part is a node of branch and bound, a
-- plane a general split (the two sides of a stabbing plane), a lemma a derived row.
use Rattle.std.specs.Prelude.{ℕ, ◌<◌, ◌==◌, ℤ, pos, ◌+ℤ◌, nat_eq, if◌then◌else◌, true, IsTrue, List, [], ◌∷◌, ◌++◌, Option, Some, None, All}
use Rattle.exact_numbers.specs.Rational.{ℚ, whole, zero_ℚ, IsWhole}
use Rattle.linear_program.specs.Linear.{Interval, Form, Row, Linear, value_at, variable_at, variable_count}
use Rattle.certificates.specs.Checked.{is_at_most}
use Rattle.certificates.specs.Points.{Box, bounds_of, IsRelaxedIn}

-- ---- parts
-- a program, with its own bounds or narrower ones, and the value that its objective has to meet
pub record Part : Type 0 where
  pub program : Linear
  pub box : Box
  pub value : ℚ

abbrev pub part_of : Linear → Box → ℚ → Part
part_of f box v = record { program = f; box = box; value = v }

abbrev pub whole_part : Linear → ℚ → Part
whole_part f v = part_of f (bounds_of f) v

-- variable j is one of the program's whole variables
abbrev pub IsWholeVariable : Linear → ℕ → Type 0
IsWholeVariable f j = (j < variable_count f) × IsTrue (variable_at f j).whole

-- the point satisfies the rows and the bounds, and each whole variable is whole
pub record IsFeasibleIn (p : Part) (xs : List ℚ) : Type 0 where
  pub relaxed : IsRelaxedIn p.program p.box xs
  pub whole : (j : ℕ) → j < variable_count p.program → IsTrue (variable_at p.program j).whole
      → IsWhole (value_at xs j)

-- ---- cuts
-- a sum of whole numbers times variables: each with its factor, the others with 0
abbrev pub WholeForm : Type 0
WholeForm = List (ℕ × ℤ)

abbrev pub factor_of : WholeForm → ℕ → ℤ
factor_of [] j = pos 0
factor_of (p ∷ ps) j = if j == p.0 then p.1 else factor_of ps j

abbrev pub form_of : WholeForm → Form
form_of ps = record { constant = zero_ℚ; coefficient = λ j. whole (factor_of ps j) }

-- a sum of any numbers times variables, likewise
abbrev pub NumberForm : Type 0
NumberForm = List (ℕ × ℚ)

abbrev pub number_factor : NumberForm → ℕ → ℚ
number_factor [] j = zero_ℚ
number_factor (p ∷ ps) j = if j == p.0 then p.1 else number_factor ps j

abbrev pub sum_of : NumberForm → Form
sum_of ps = record { constant = zero_ℚ; coefficient = number_factor ps }

-- variable j, or a form, is at most t or at least t + 1; or: a form is at most t, which is shown
-- first
pub data Cut : Type 0 where
  bound : ℕ → ℤ → Cut
  plane : WholeForm → ℤ → Cut
  lemma : NumberForm → ℚ → Cut

-- a bound or a plane names whole variables only: so at a feasible point nothing lies between its
-- sides. A lemma may name any
abbrev pub IsCutWhole : Linear → Cut → Type 0
IsCutWhole f (bound j t) = IsWholeVariable f j
IsCutWhole f (plane form t) = All (λ (p : ℕ × ℤ). IsWholeVariable f p.0) form
IsCutWhole f (lemma form t) = Unit {0}

-- ---- the sides of a cut
abbrev pub least : Option ℚ → ℚ → Option ℚ
least None t = Some t
least (Some s) t = if is_at_most s t then Some s else Some t

abbrev pub greatest : Option ℚ → ℚ → Option ℚ
greatest None t = Some t
greatest (Some s) t = if is_at_most s t then Some t else Some s

-- with "variable j at most t" added
unfoldable pub capped : Box → ℕ → ℚ → Box
capped box j t k =
    if nat_eq k j then record { lower = (box k).lower; upper = least (box k).upper t } else box k

-- with "variable j at least t" added
unfoldable pub raised : Box → ℕ → ℚ → Box
raised box j t k =
    if nat_eq k j then record { lower = greatest (box k).lower t; upper = (box k).upper } else box k

abbrev pub at_most : ℚ → Interval
at_most u = record { lower = None; upper = Some u }

abbrev pub at_least : ℚ → Interval
at_least l = record { lower = Some l; upper = None }

-- a row for a form, and the program with one row more, after the others
abbrev pub added_row : Form → Interval → Row
added_row form side = record { name = []; body = form; side = side }

abbrev pub with_added_row : Linear → Form → Interval → Linear
with_added_row f form side = record f { rows = f.rows ++ added_row form side ∷ [] }

-- the goal to maximise a form
abbrev pub maximising : Linear → Form → Linear
maximising f form = record f { objective = form; maximise = true }

-- the part where the form is at most t, and that where it is at least t + 1; of a lemma the part
-- that has to show it, and the one that goes on with it
abbrev pub first_part : Cut → Part → Part
first_part (bound j t) p = record p { box = capped p.box j (whole t) }
first_part (plane form t) p =
    record p { program = with_added_row p.program (form_of form) (at_most (whole t)) }
first_part (lemma form t) p = part_of (maximising p.program (sum_of form)) p.box t

abbrev pub second_part : Cut → Part → Part
second_part (bound j t) p = record p { box = raised p.box j (whole (t +ℤ pos 1)) }
second_part (plane form t) p =
    record p { program = with_added_row p.program (form_of form) (at_least (whole (t +ℤ pos 1))) }
second_part (lemma form t) p =
    record p { program = with_added_row p.program (sum_of form) (at_most t) }
