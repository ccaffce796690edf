use Rattle.std.proofs.Common.{◌≡◌, get_or}
use Rattle.linear_program.specs.declared.kind.Kind.TheVariants.{Continuous}
use Rattle.mps_import.specs.InsideKinds.{is_kind}
use Rattle.mps_program.specs.Places.{places}
use Rattle.mps_import.proofs.places.places_of.Given as goal

abbrev pub invariant-kinds : goal.invariant-kinds
invariant-kinds l = l.found.items ≡ places (λ j. is_kind l.kind (get_or l.kinds j Continuous)) l.j
