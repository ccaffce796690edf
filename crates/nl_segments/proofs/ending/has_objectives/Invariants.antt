use Rattle.std.proofs.Common.{◌≡◌, is_some, drop, length}
use Rattle.std.specs.List.{list_all}
use Rattle.nl_segments.proofs.ending.has_objectives.Given as goal

abbrev pub invariant-objectives : goal.invariant-objectives
invariant-objectives l = record {
  rest : list_all is_some (drop l.k l.builder.objectives) ≡ list_all is_some l.builder.objectives;
  count : l.count ≡ length l.builder.objectives;
}
