use Rattle.std.proofs.Common.{◌≡◌, drop}
use Rattle.linear_program.specs.Places.{terms_from}
use Rattle.linear_program.proofs.marked_places.MarkedPlaces.term_from.Given as goal

abbrev pub invariant-loop-place : goal.invariant-loop-place
invariant-loop-place l = terms_from l.place (drop l.place l.self) ≡ terms_from l.first (drop l.first l.self)
