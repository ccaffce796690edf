use Rattle.std.proofs.Common.{◌≡◌, ℕ, List}
use Rattle.std.specs.List.{flat_map}
use Rattle.row_scaling.specs.InsideSections.{range_lines}
use Rattle.row_scaling.proofs.ColumnLemmas.{left}
use Rattle.row_scaling.proofs.side_lines.has_ranges.Given as goal

abbrev pub invariant-loop-row : goal.invariant-loop-row
invariant-loop-row l = (name : ℕ → List ℕ) → flat_map range_lines (left name l.rows l.row-index) ≡ flat_map range_lines (left name l.rows 0)
