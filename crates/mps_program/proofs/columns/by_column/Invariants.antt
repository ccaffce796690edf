use Rattle.std.proofs.Common.{◌≡◌, ℕ, ◌<◌, map, drop, length, get_or}
use Rattle.mps_model.specs.Built.{bound_of}
use Rattle.mps_program.specs.InsideColumns.{none_set, sets_of, with_sets}
use Rattle.mps_program.proofs.columns.by_column.Given as goal

abbrev pub invariant-bounds : goal.invariant-bounds
invariant-bounds l = record {
  count : length l.columns.items ≡ l.count;
  left : (j : ℕ) → j < l.count → with_sets (get_or l.columns.items j none_set) j (map bound_of (drop l.bound-index l.bounds)) ≡ sets_of j (map bound_of l.bounds);
}
