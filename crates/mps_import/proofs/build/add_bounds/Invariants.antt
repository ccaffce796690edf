use Rattle.std.proofs.Common.{◌≡◌, ◌++◌, map, take, get_or}
use Rattle.linear_program.specs.Intervals.{no_sides}
use Rattle.mps_import.proofs.build.add_bounds.Given as goal

abbrev pub invariant-variables : goal.invariant-variables
invariant-variables l = l.builder ≡ record l.initial.builder { bounds = l.initial.builder.bounds ++ map (λ j. get_or l.bounds j no_sides) (take l.j-index l.order) }
