use Rattle.std.proofs.Common.{◌≡◌, [], get_or}
use Rattle.std.specs.Ordering.{is_gt}
use Rattle.linear_program.specs.Intervals.{interval_of, no_sides}
use Rattle.mps_program.specs.Faults.{both_sides}
use Rattle.mps_program.specs.Places.{places}
use Rattle.mps_program.proofs.variables.first_empty.Given as goal

abbrev pub invariant-columns : goal.invariant-columns
invariant-columns l = places (λ j. both_sides is_gt (interval_of (get_or l.sides j no_sides)).lower (interval_of (get_or l.sides j no_sides)).upper) l.j ≡ []
