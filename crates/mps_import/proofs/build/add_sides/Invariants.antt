use Rattle.std.proofs.Common.{◌≡◌, ◌++◌, take}
use Rattle.mps_import.proofs.build.add_sides.Given as goal

abbrev pub invariant-sides : goal.invariant-sides
invariant-sides l = l.builder ≡ record l.initial.builder { sides = l.initial.builder.sides ++ take l.side-index l.sides }
