-- The forms that terms of rows become.
use Rattle.std.specs.Prelude.{◌≡◌, ◌≢◌, ℕ, suc, ◌+◌, ◌<◌, ◌≤◌, true, false, List, [], ◌∷◌, length, get_or, Option, Some, None}
use Rattle.exact_numbers.specs.Rational.{ℚ, zero_ℚ, neg_ℚ}
use Rattle.exact_numbers.specs.Values.{dec_value}
use Rattle.linear_program.specs.Decimals.{DecimalTerm, fraction_terms}
use Rattle.linear_program.specs.Forms.{form_line, form_terms, parts_line}
use Rattle.linear_program.specs.declared.form.Form.{Form}
use Rattle.exact_numbers.specs.declared.dec.Dec.{Dec}
use Rattle.mps_model.specs.Mps.{Mps, objective_row, rhs_at}
use Rattle.mps_program.specs.Faults.{is_objective_wide}
use Rattle.mps_program.specs.Program.{values_of}
use Rattle.mps_program.specs.Terms.{row_terms}

-- ascending by column, the first being at least n, and no coefficient is 0
abbrev pub AreInOrder : ℕ → List DecimalTerm → Type 0
AreInOrder n [] = Unit {0}
AreInOrder n (t ∷ ts) = (n ≤ t.0) × (dec_value t.1 ≢ zero_ℚ) × AreInOrder (suc t.0) ts

-- a form has this constant and these terms
pub record IsFormOf (k : ℚ) (ts : List DecimalTerm) (f : Form) : Type 0 where
  pub line : form_line f ≡ parts_line k (fraction_terms ts)
  pub terms : form_terms f ≡ fraction_terms ts

-- the forms of some rows, whose terms are given by row
abbrev pub AreBodiesOf : (ℕ → List DecimalTerm) → List ℕ → List Form → Type 0
AreBodiesOf terms [] [] = Unit {0}
AreBodiesOf terms [] (f ∷ fs) = ⊥
AreBodiesOf terms (i ∷ is) [] = ⊥
AreBodiesOf terms (i ∷ is) (f ∷ fs) =
    IsFormOf zero_ℚ (terms i) f × AreBodiesOf terms is fs

-- these are the terms of rows, of which the first is row i
pub record AreTermsFrom (terms : ℕ → List DecimalTerm) (i : ℕ) (lists : List (List DecimalTerm))
    : Type 0 where
  pub each : (k : ℕ) → k < length lists → get_or lists k [] ≡ terms (i + k)

-- the form of the objective, or none where a number of it has no fraction
abbrev pub IsObjectiveOf : Mps Dec → Option Form → Type 0
IsObjectiveOf m None = is_objective_wide m ≡ true
IsObjectiveOf m (Some f) =
    (is_objective_wide m ≡ false)
    × IsFormOf (neg_ℚ (rhs_at (values_of m) (objective_row m.rows)))
    (row_terms m (objective_row m.rows)) f
