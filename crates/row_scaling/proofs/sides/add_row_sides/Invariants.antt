use Rattle.std.proofs.Common.{◌≡◌, length}
use Rattle.row_scaling.specs.InsideSides.{right_side_of}
use Rattle.row_scaling.specs.Parts.{name_in}
use Rattle.row_scaling.proofs.AddLemmas.{AreEntriesLeft}
use Rattle.row_scaling.proofs.sides.add_row_sides.Given as goal

abbrev pub invariant-loop-row : goal.invariant-loop-row
invariant-loop-row l = record {
  only : l.builder ≡ record l.initial.builder { rhs = l.builder.rhs };
  left : AreEntriesLeft right_side_of (name_in (length l.scaled.rows)) l.rows l.initial.builder.rhs l.builder.rhs l.place l.row-index;
}
