-- Lines as runs of lines that follow one another.
use Rattle.std.specs.Prelude.{ℕ, ◌+◌, ◌-◌, ◌==◌, Bool, true, List, [], ◌∷◌, ◌++◌}
use Rattle.std.specs.List.{range_with_len}
use Rattle.nl_lines.specs.declared.line_runs.LineRun.{LineRun}

-- the lines of a run, from its first to its last
abbrev pub lines_in : LineRun → List ℕ
lines_in r = range_with_len r.first (r.last + 1 - r.first)

unfoldable pub run_lines : List LineRun → List ℕ
run_lines [] = []
run_lines (r ∷ rs) = lines_in r ++ run_lines rs

-- a line is the one after the last of these lines, or there are none
abbrev pub follows : List ℕ → ℕ → Bool
follows [] line = true
follows (l ∷ []) line = l + 1 == line
follows (l ∷ m ∷ lines) line = follows (m ∷ lines) line
