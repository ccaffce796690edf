use Rattle.std.proofs.Common.{◌≡◌}
use Rattle.row_scaling.proofs.AddLemmas.{AreBoundsLeft}
use Rattle.row_scaling.proofs.bounds.add_bounds.Given as goal

abbrev pub invariant-loop-j : goal.invariant-loop-j
invariant-loop-j l = record {
  only : l.builder ≡ record l.initial.builder { bounds = l.builder.bounds };
  left : AreBoundsLeft l.scaled l.builder.bounds l.j;
}
