-- The linear program of an .nl file, by the values of its bodies and of an objective.
use Rattle.std.specs.Prelude.{◌≡◌, ℕ, ◌<◌, List, [], Some}
use Rattle.exact_numbers.specs.Rational.{ℚ, zero_ℚ, decimal_value}
use Rattle.linear_program.specs.Linear.{Form, Row, Variable, Linear, form_value, AreOrdered}
pub use Rattle.linear_program.specs.Names.{row_name, variable_name}
use Rattle.nl_model.specs.Faults.{expression_line}
use Rattle.linear_program.specs.Lines.{form_of_line}
use Rattle.nl_model.specs.Trees.{Tree, number, Expression, indices_of, IsExpressionFormed, AreDefined}
use Rattle.nl_model.specs.File.{File}
use Rattle.nl_model.specs.Expressions.{definitions_of, body_of, objective_of, maximises}
use Rattle.nl_model.specs.Meaning.{body_value, file_objective, side_of, bound_of, is_whole_variable}
use Rattle.linear_program.specs.Elements.{elements_from}

-- the constant is the value at 0; the coefficient of variable j is the value with 1 at j and 0
-- elsewhere, less the constant
abbrev pub body_form : File → ℕ → Form
body_form f i = form_of_line (expression_line (definitions_of f) (body_of f i))

abbrev pub objective_form : File → ℕ → Form
objective_form f k = form_of_line (expression_line (definitions_of f) (objective_of f k))

abbrev pub linear_row : File → ℕ → Row
linear_row f i = record { name = row_name i; body = body_form f i; side = side_of f i }

abbrev pub linear_variable : File → ℕ → Variable
linear_variable f j =
    record { name = variable_name j; bound = bound_of f j; whole = is_whole_variable f j }

-- the linear program of a file with objective k
unfoldable pub linear_of : File → ℕ → Linear
linear_of f k =
    record {
      rows = elements_from (linear_row f) 0 f.counts.n_con;
      variables = elements_from (linear_variable f) 0 f.counts.n_var;
      objective = objective_form f k;
      maximise = maximises f k;
    }

-- at every assignment each body and objective k have the value of their form
pub record HasLines (f : File) (k : ℕ) : Type 0 where
  pub bodies : (i : ℕ) → i < f.counts.n_con → (xs : List ℚ)
      → body_value f i xs ≡ Some (form_value (body_form f i) f.counts.n_var xs)
  pub objective : (xs : List ℚ)
      → file_objective f k xs ≡ Some (form_value (objective_form f k) f.counts.n_var xs)

-- an expression of the file uses only its variables and its defined variables
abbrev pub IsWithin : File → Expression → Type 0
IsWithin f x = IsExpressionFormed f.counts.n_var (indices_of (definitions_of f)) x

-- what holds of each file that is read: sides are ordered, indices are in range
pub record IsFormedFile (f : File) (k : ℕ) : Type 0 where
  pub ordered : (i : ℕ) → i < f.counts.n_con → AreOrdered (side_of f i).lower (side_of f i).upper
  pub definitions : AreDefined f.counts.n_var [] (definitions_of f)
  pub bodies : (i : ℕ) → i < f.counts.n_con → IsWithin f (body_of f i)
  pub objective : IsWithin f (objective_of f k)

-- ---- plain files
-- the tree is one number
abbrev pub IsNumber : Tree → Type 0
IsNumber (number m e) = Unit {0}
IsNumber t = ⊥

-- the number that a tree of one number is
abbrev pub number_value : Tree → ℚ
number_value (number m e) = decimal_value m e
number_value t = zero_ℚ

-- every tree of a body that was given, and that of objective k, is one number
pub record IsPlain (f : File) (k : ℕ) : Type 0 where
  pub bodies : (i : ℕ) → i < f.counts.n_con → IsNumber (body_of f i).tree
  pub objective : IsNumber (objective_of f k).tree
