use Rattle.std.proofs.Common.{◌≡◌, ◌≤◌, ◌+◌, ◌++◌, length}
use Rattle.text_base.specs.WordLines.{lines_text}
use Rattle.row_scaling.specs.Scaled.{ScaledValue}
use Rattle.row_scaling.specs.InsideColumns.{AreColumns, entries_in_column}
use Rattle.row_scaling.specs.InsideHeads.{AreHeads}
use Rattle.row_scaling.specs.InsideSections.{lines_from}
use Rattle.row_scaling.proofs.column_lines.put_part.Given as goal

abbrev pub invariant-loop-k : goal.invariant-loop-k
invariant-loop-k l = record {
  few : l.markers ≤ l.first + l.k;
  text : (s : ScaledValue) → AreHeads s l.heads → AreColumns (λ c. c) (length l.columns) (λ k. entries_in_column s (l.first + k)) l.columns →
      l.out ++ lines_text (lines_from s l.marked l.markers (l.first + l.k)) ≡ l.initial.out ++ lines_text (lines_from s l.fn.from.marked l.fn.from.markers l.first);
}
