use Rattle.std.proofs.Common.{◌≡◌, ◌++◌, map}
use Rattle.exact_numbers.specs.Values.{value_text}
use Rattle.scaled_program.specs.ExportedProgram.{bounds_of}
use Rattle.mps_model.specs.Text.{bound_line}
use Rattle.text_base.specs.WordLines.{lines_text}
use Rattle.row_scaling.specs.InsideSections.{all_bounds, all_columns}
use Rattle.row_scaling.proofs.AddLemmas.{left_variables}
use Rattle.row_scaling.proofs.bound_lines.put_listed_bounds.Given as goal

abbrev pub invariant-loop-j : goal.invariant-loop-j
invariant-loop-j l = l.out ++ lines_text (map (bound_line value_text (all_columns l.scaled)) (bounds_of l.j (left_variables l.scaled l.j)))
    ≡ l.initial.out ++ lines_text (map (bound_line value_text (all_columns l.scaled)) (all_bounds l.scaled))
