use Rattle.std.proofs.Common.{◌≡◌, ◌≤◌, ◌<◌, ◌%◌, ◌-◌, ◌++◌, false}
use Rattle.text_base.specs.WordLines.{lines_text}
use Rattle.linear_program.specs.Parts.{AreLater}
use Rattle.row_scaling.specs.Parts.{column_count}
use Rattle.row_scaling.specs.Scaled.{ScaledValue}
use Rattle.row_scaling.specs.InsideColumns.{AreColumns, entries_in_column}
use Rattle.row_scaling.specs.InsideHeads.{AreHeads}
use Rattle.row_scaling.specs.InsideSections.{lines_from}
use Rattle.row_scaling.proofs.column_lines.put_parts.Given as goal

abbrev pub invariant-parts : goal.invariant-parts
invariant-parts l = record {
  within : l.done ≤ l.total;
  start : l.done < l.total → l.done % 1024 ≡ 0;
  later : AreLater l.done l.initial.buckets l.buckets;
  few : l.place.markers ≤ l.done;
  text : (s : ScaledValue) → AreHeads s l.heads → AreColumns (λ c. c) (column_count s) (entries_in_column s) l.initial.buckets →
      l.out ++ lines_text (lines_from s l.place.marked l.place.markers l.done) ≡ l.initial.out ++ lines_text (lines_from s false 0 0);
}

abbrev pub decreases-parts : goal.decreases-parts
decreases-parts l = l.total - l.done
