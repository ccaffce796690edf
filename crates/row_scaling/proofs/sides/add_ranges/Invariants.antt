use Rattle.std.proofs.Common.{◌≡◌, length}
use Rattle.row_scaling.specs.InsideSides.{range_in}
use Rattle.row_scaling.specs.Parts.{name_in}
use Rattle.row_scaling.proofs.AddLemmas.{AreEntriesLeft}
use Rattle.row_scaling.proofs.sides.add_ranges.Given as goal

abbrev pub invariant-loop-row : goal.invariant-loop-row
invariant-loop-row l = record {
  only : l.builder ≡ record l.initial.builder { ranges = l.builder.ranges };
  left : AreEntriesLeft range_in (name_in (length l.scaled.rows)) l.rows l.initial.builder.ranges l.builder.ranges l.place l.row-index;
}
