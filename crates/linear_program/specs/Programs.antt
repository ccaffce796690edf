-- A linear program as data: the form of each body and of an objective, with sides, bounds and
-- kinds; and the linear program that it is.
use Rattle.std.specs.Prelude.{◌≡◌, ℕ, suc, ◌+◌, ◌≤◌, ◌^◌, Bool, List, [], ◌∷◌, length, All}
use Rattle.std.specs.List.{sum_by}
use Rattle.linear_program.specs.Linear.{Form as LinearForm, Row, Variable, Linear}
use Rattle.linear_program.specs.Names.{row_name, variable_name}
use Rattle.linear_program.specs.declared.interval.Interval.{Interval}
use Rattle.linear_program.specs.declared.kind.Kind.{Kind}
use Rattle.linear_program.specs.Intervals.{IsOrdered, interval_of, is_whole_kind}
use Rattle.linear_program.specs.Lines.{form_of_line}
use Rattle.linear_program.specs.declared.form.Form.{Form}
use Rattle.linear_program.specs.declared.linear.LinearParts.{LinearParts}
use Rattle.linear_program.specs.Coefs.{AreBelow}
use Rattle.linear_program.specs.Forms.{form_line, form_terms}

-- bodies and sides by constraint, bounds and kinds by variable; the number of the objective
pub record LinearValue : Type 0 where
  pub bodies : List Form
  pub objective : Form
  pub number : ℕ
  pub maximise : Bool
  pub sides : List Interval
  pub bounds : List Interval
  pub kinds : List Kind

-- what parts are together
abbrev pub parts_value : LinearParts → LinearValue
parts_value p =
    record {
      bodies = p.bodies.items;
      objective = p.objective;
      number = p.number;
      maximise = p.maximise;
      sides = p.sides.items;
      bounds = p.bounds.items;
      kinds = p.kinds.items;
    }

abbrev pub form_of : Form → LinearForm
form_of f = form_of_line (form_line f)

-- the rows in order, of which the first is that of constraint i
abbrev pub rows_from : ℕ → List Form → List Interval → List Row
rows_from i [] sides = []
rows_from i (b ∷ bodies) [] = []
rows_from i (b ∷ bodies) (s ∷ sides) =
    record { name = row_name i; body = form_of b; side = interval_of s }
    ∷ rows_from (suc i) bodies sides

-- the variables in order, of which the first is variable j
abbrev pub variables_from : ℕ → List Interval → List Kind → List Variable
variables_from j [] kinds = []
variables_from j (b ∷ bounds) [] = []
variables_from j (b ∷ bounds) (k ∷ kinds) =
    record { name = variable_name j; bound = interval_of b; whole = is_whole_kind k }
    ∷ variables_from (suc j) bounds kinds

-- the linear program that it is
unfoldable pub linear_value : LinearValue → Linear
linear_value l =
    record {
      rows = rows_from 0 l.bodies l.sides;
      variables = variables_from 0 l.bounds l.kinds;
      objective = form_of l.objective;
      maximise = l.maximise;
    }

-- a form of the first n variables
abbrev pub IsFormOver : ℕ → Form → Type 0
IsFormOver n f = AreBelow n (form_terms f)

abbrev pub coefficient_total : LinearValue → ℕ
coefficient_total l = sum_by (λ f. length (form_terms f)) l.bodies + length (form_terms l.objective)

-- what holds of each; the limits are this project's own
pub record IsLinear (l : LinearValue) : Type 0 where
  pub bodies : All (IsFormOver (length l.bounds)) l.bodies
  pub objective : IsFormOver (length l.bounds) l.objective
  pub sides : length l.sides ≡ length l.bodies
  pub ordered : All IsOrdered l.sides
  pub kinds : length l.kinds ≡ length l.bounds
  pub few_rows : length l.bodies ≤ 2 ^ 20
  pub few_columns : length l.bounds ≤ 2 ^ 20
  pub few_coefficients : coefficient_total l ≤ 2 ^ 23
