-- Runs of lines in a box.
use Rattle.std.specs.Prelude.{List, [], ◌∷◌, Option, None, Some, Box}
use Rattle.std.specs.Global.{Global}
use Rattle.nl_lines.specs.declared.earlier_runs.FirstRuns.{FirstRuns}
use Rattle.nl_lines.specs.declared.line_runs.LineRun.{LineRun}

-- the runs, where there are any
abbrev pub boxed_runs : Option (Box FirstRuns Global) → List LineRun
boxed_runs None = []
boxed_runs (Some b) = b.value.first ∷ b.value.more.items
