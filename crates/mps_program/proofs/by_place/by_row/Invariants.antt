use Rattle.std.proofs.Common.{◌≡◌, ℕ, ◌<◌, map, drop, length, get_or, None}
use Rattle.std.specs.Option.{option_or}
use Rattle.mps_model.specs.Built.{entry_of}
use Rattle.mps_model.specs.Mps.{at_row}
use Rattle.mps_program.proofs.by_place.by_row.Given as goal

abbrev pub invariant-given : goal.invariant-given
invariant-given l = record {
  count : length l.all.items ≡ l.count;
  left : (i : ℕ) → i < l.count → option_or (get_or l.all.items i None) (at_row i (map entry_of (drop l.entry-index l.given))) ≡ at_row i (map entry_of l.given);
}
