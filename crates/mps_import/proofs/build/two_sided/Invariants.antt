use Rattle.std.proofs.Common.{◌≡◌, take}
use Rattle.std.specs.List.{count_by}
use Rattle.mps_import.specs.InsideParts.{side_test}
use Rattle.mps_import.proofs.build.two_sided.Given as goal

abbrev pub invariant-sides : goal.invariant-sides
invariant-sides l = l.count ≡ count_by (side_test l.equal) (take l.side-index l.sides)
