use Rattle.std.proofs.Common.{◌≡◌, drop, length}
use Rattle.linear_program.specs.Coefs.{AreBelow}
use Rattle.linear_program.specs.Places.{put_all}
use Rattle.linear_program.proofs.marked_places.MarkedPlaces.put_all.Given as goal

abbrev pub invariant-loop-term : goal.invariant-loop-term
invariant-loop-term l =
    record {
      left : put_all (drop l.term-index l.terms) l.self ≡ put_all l.terms l.fn.self;
      below : AreBelow (length l.fn.self) (drop l.term-index l.terms);
      count : length l.self ≡ length l.fn.self;
    }
