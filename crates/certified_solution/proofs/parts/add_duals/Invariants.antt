use Rattle.std.proofs.Common.{◌≡◌, ◌++◌, take}
use Rattle.certified_solution.proofs.parts.add_duals.Given as goal

abbrev pub invariant-duals : goal.invariant-duals
invariant-duals l = l.sol ≡ record l.initial.sol { duals = l.initial.sol.duals ++ take l.value-index l.value-items }
