use Rattle.std.proofs.Common.{◌≡◌, ◌++◌}
use Rattle.std.specs.List.{flat_map}
use Rattle.row_scaling.specs.Parts.{name_in}
use Rattle.text_base.specs.WordLines.{lines_text}
use Rattle.row_scaling.specs.InsideSections.{lines_in}
use Rattle.row_scaling.proofs.ColumnLemmas.{left}
use Rattle.row_scaling.proofs.listed_rows.put_listed.Given as goal

abbrev pub invariant-loop-i : goal.invariant-loop-i
invariant-loop-i l = l.out ++ lines_text (flat_map (lines_in l.section) (left (name_in l.n) l.rows l.i)) ≡ l.initial.out ++ lines_text (flat_map (lines_in l.section) (left (name_in l.n) l.rows 0))
