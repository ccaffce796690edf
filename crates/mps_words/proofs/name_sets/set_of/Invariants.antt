use Rattle.std.proofs.Common.{◌≡◌, ◌+◌, ◌≤◌, length, map, take}
use Rattle.indexmap.specs.IndexSet.{spare}
use Rattle.mps_words.specs.InsideCodes.{name_of}
use Rattle.mps_words.proofs.name_sets.set_of.Given as goal

-- the names of the codes so far, with room for the others
abbrev pub invariant-codes : goal.invariant-codes
invariant-codes l = record {
  names : map (λ k. k.items) l.names.keys ≡ map name_of (take l.place l.codes);
  room : length l.codes ≤ spare l.names + l.place;
}
