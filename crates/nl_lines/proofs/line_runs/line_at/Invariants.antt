use Rattle.std.proofs.Common.{◌≡◌, ◌++◌, drop}
use Rattle.std.specs.Prelude.{slice_get}
use Rattle.nl_lines.specs.InsideLineRuns.{lines_in, run_lines}
use Rattle.nl_lines.proofs.line_runs.line_at.Given as goal

-- the place is the place `left` of the runs that are left
abbrev pub invariant-loop-run : goal.invariant-loop-run
invariant-loop-run l = slice_get (run_lines (drop l.run-index l.earlier) ++ lines_in l.last) l.left ≡ slice_get (run_lines l.earlier ++ lines_in l.last) l.place
