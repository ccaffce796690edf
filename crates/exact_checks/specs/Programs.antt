-- The linear program that a value of Program, or of Columns, is.
use Rattle.std.specs.Prelude.{ℕ, Bool, false, List, length, get_or, Option}
use Rattle.exact_numbers.specs.Rational.{ℚ, zero_ℚ}
use Rattle.linear_program.specs.Linear.{Form, Row as LinearRow, Variable, Linear}
use Rattle.linear_program.specs.Linear.{zero_form}
use Rattle.exact_numbers.specs.declared.dec.Dec.{Dec}
use Rattle.exact_numbers.specs.declared.frac.Frac.{Frac}
use Rattle.exact_numbers.specs.Values.{frac_value}
use Rattle.linear_program.specs.declared.kind.Kind.{Kind}
use Rattle.linear_program.specs.declared.kind.Kind.TheVariants.{Continuous}
use Rattle.linear_program.specs.Elements.{elements_from}
use Rattle.linear_program.specs.Names.{row_name, variable_name}
use Rattle.linear_program.specs.Intervals.{is_whole_kind}
use Rattle.exact_checks.specs.declared.columns.Columns.{Columns}
use Rattle.exact_checks.specs.declared.form.Row.{Row}
use Rattle.exact_checks.specs.declared.program.Program.{Program}
use Rattle.exact_checks.specs.declared.verdict.Goal.{Goal}
use Rattle.exact_checks.specs.declared.verdict.Goal.TheVariants.{Objective, Zero}
unfoldable pub use Rattle.exact_checks.specs.Lists.{form_of, body_in, side_in, side_listed, bounds_in}
pub use Rattle.exact_checks.specs.Lists.{AreSound, AreTransposed}

abbrev pub program_row : List Row → ℕ → LinearRow
program_row rows i = record { name = row_name i; body = body_in rows i; side = side_in rows i }

abbrev pub program_variable : List (Option Dec) → List (Option Dec) → List Kind → ℕ → Variable
program_variable lo hi kinds j =
    record {
      name = variable_name j;
      bound = bounds_in lo hi j;
      whole = is_whole_kind (get_or kinds j Continuous);
    }

-- the program that is held
unfoldable pub program_value : Program → Linear
program_value c =
    record {
      rows = elements_from (program_row c.rows.items) 0 (length c.rows.items);
      variables =
          elements_from (program_variable c.lower.items c.upper.items c.kinds.items) 0
          (length c.lower.items);
      objective = form_of c.objective;
      maximise = c.maximise;
    }

abbrev pub program_of : Columns → Linear
program_of c = program_value c.program

abbrev pub goal_form : Goal → Form → Form
goal_form Objective g = g
goal_form Zero g = zero_form

abbrev pub goal_sense : Goal → Bool → Bool
goal_sense Objective maximise = maximise
goal_sense Zero maximise = false

-- the program with its objective, or with the objective 0, minimised
abbrev pub asked : Goal → Linear → Linear
asked goal f =
    record f { objective = goal_form goal f.objective; maximise = goal_sense goal f.maximise }

-- the coefficient of a variable in the goal
abbrev pub goal_cost : Goal → Frac → ℚ
goal_cost Objective f = frac_value f
goal_cost Zero f = zero_ℚ
