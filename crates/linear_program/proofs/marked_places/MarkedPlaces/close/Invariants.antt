use Rattle.linear_program.proofs.Closing.{Closing}
use Rattle.linear_program.proofs.marked_places.MarkedPlaces.close.Given as goal

abbrev pub invariant-loop-variable : goal.invariant-loop-variable
invariant-loop-variable l = Closing l.fn.self l.places.items l.items.items l.variable-items l.variable-index
