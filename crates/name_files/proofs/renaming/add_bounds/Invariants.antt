use Rattle.std.proofs.Common.{◌≡◌, map, take}
use Rattle.mps_model.specs.Built.{bound_of}
use Rattle.name_files.proofs.renaming.add_bounds.Given as goal

abbrev pub invariant-loop-bound : goal.invariant-loop-bound
invariant-loop-bound l = l.builder ≡ record l.initial.builder { bounds = map bound_of (take l.bound-index l.bounds) }
