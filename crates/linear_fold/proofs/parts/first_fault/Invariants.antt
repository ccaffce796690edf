use Rattle.std.proofs.Common.{◌≡◌, reverse, take}
use Rattle.linear_fold.specs.InsideFolds.{first_broken}
use Rattle.linear_fold.proofs.parts.first_fault.Given as goal

abbrev pub invariant-loop-operand : goal.invariant-loop-operand
invariant-loop-operand l = l.broken ≡ first_broken (reverse (take l.operand-index l.operands))
