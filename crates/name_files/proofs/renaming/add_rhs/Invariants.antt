use Rattle.std.proofs.Common.{◌≡◌, map, take}
use Rattle.mps_model.specs.Built.{entry_of}
use Rattle.name_files.proofs.renaming.add_rhs.Given as goal

abbrev pub invariant-loop-entry : goal.invariant-loop-entry
invariant-loop-entry l = l.builder ≡ record l.initial.builder { rhs = map entry_of (take l.entry-index l.rhs) }
