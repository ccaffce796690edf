use Rattle.std.proofs.Common.{◌≡◌, ◌≤◌, ◌-◌, ◌++◌, ◌<◌, All, length, map, drop}
use Rattle.exact_numbers.specs.Values.{value_text}
use Rattle.mps_model.specs.Text.{entry_lines}
use Rattle.text_base.specs.WordLines.{lines_text}
use Rattle.mps_writer.specs.Names.{name_bytes}
use Rattle.row_scaling.specs.InsideColumns.{entry_value}
use Rattle.row_scaling.specs.InsideHeads.{AreNumbers}
use Rattle.row_scaling.specs.InsideSections.{all_rows}
use Rattle.row_scaling.specs.Scaled.{ScaledValue}
use Rattle.row_scaling.proofs.entry_lines.put_column.Given as goal

abbrev pub invariant-parts : goal.invariant-parts
invariant-parts l = record {
  within : l.done ≤ length l.entries;
  text : (s : ScaledValue) → AreNumbers s l.numbers → All (λ t. t.0 < length (all_rows s)) l.entries
      → l.out ++ lines_text (entry_lines value_text (all_rows s) (name_bytes l.column)
      (map entry_value (drop l.done l.entries)))
      ≡ l.initial.out ++ lines_text (entry_lines value_text (all_rows s) (name_bytes l.column) (map entry_value l.entries));
}

abbrev pub decreases-parts : goal.decreases-parts
decreases-parts l = length l.entries - l.done
