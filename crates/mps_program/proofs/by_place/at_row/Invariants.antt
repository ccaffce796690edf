use Rattle.std.proofs.Common.{◌≡◌, map, drop}
use Rattle.mps_model.specs.Built.{entry_of}
use Rattle.mps_model.specs.Mps.{at_row}
use Rattle.mps_program.proofs.by_place.at_row.Given as goal

abbrev pub invariant-given : goal.invariant-given
invariant-given l = at_row l.row (map entry_of (drop l.entry-index l.given)) ≡ at_row l.row (map entry_of l.given)
