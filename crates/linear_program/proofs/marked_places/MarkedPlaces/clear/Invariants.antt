use Rattle.std.proofs.Common.{◌≡◌, length, vec_len}
use Rattle.linear_program.specs.Places.{AreMarked}
use Rattle.linear_program.proofs.marked_places.MarkedPlaces.clear.Given as goal

abbrev pub invariant-touched : goal.invariant-touched
invariant-touched l =
    record {
      marked : AreMarked l.self-inside.places.items l.self-inside.touched.items;
      count : length l.self-inside.places.items ≡ length l.fn.self;
    }

abbrev pub decreases-touched : goal.decreases-touched
decreases-touched l = vec_len l.self-inside.touched
