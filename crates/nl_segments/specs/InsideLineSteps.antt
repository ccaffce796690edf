-- What a line before an expression does to what is held, and by which tests the next one is judged.
use Rattle.std.specs.Prelude.{ℕ, ◌-◌, ◌<◌, ◌++◌, ◌∷◌, [], Bool, true, false, not, ◌&&◌, List, length, Option, Some, None, if◌then◌else◌}
use Rattle.nl_model.specs.declared.header_counts.Counts.{Counts}
use Rattle.linear_program.specs.declared.interval.Interval.{Interval}
use Rattle.nl_model.specs.Draft.{Draft}
use Rattle.nl_model.specs.Kinds.{variable_kind}
use Rattle.nl_lines.specs.Pieces.{is_nothing}
use Rattle.nl_lines.specs.Tests.{Tests, interval_form_tests, is_binary, is_sides}
use Rattle.nl_segments.specs.Current.{Current, current_awaits}

-- a piece is held until it is complete
abbrev pub unless_complete : Current → Option Current
unless_complete c = if is_nothing (current_awaits c) then None else Some c

-- ---- an interval, of a constraint or of a variable

abbrev pub with_interval : Draft → Bool → Interval → Draft
with_interval d true i = record d { sides = d.sides ++ i ∷ [] }
with_interval d false i = record d { bounds = d.bounds ++ i ∷ [] }

-- one more may come
abbrev pub HasRoom : Draft → Bool → Type 0
HasRoom d true = length d.sides < d.counts.n_con
HasRoom d false = length d.bounds < d.counts.n_var

-- of those of variables, as many are left as there are variables from the next one on
abbrev pub next_interval_tests : Counts → Current → List (List ℕ) → Tests
next_interval_tests c cur words =
    interval_form_tests (is_sides cur.head)
    (not (is_sides cur.head) && is_binary (variable_kind c (c.n_var - cur.left))) words
