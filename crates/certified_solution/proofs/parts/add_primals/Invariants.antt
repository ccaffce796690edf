use Rattle.std.proofs.Common.{◌≡◌, ◌++◌, take}
use Rattle.certified_solution.proofs.parts.add_primals.Given as goal

abbrev pub invariant-primals : goal.invariant-primals
invariant-primals l = l.sol ≡ record l.initial.sol { primals = l.initial.sol.primals ++ take l.value-index l.value-items }
