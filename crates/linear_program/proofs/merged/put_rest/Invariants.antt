use Rattle.std.proofs.Common.{◌≡◌, ◌++◌, drop}
use Rattle.linear_program.proofs.merged.put_rest.Given as goal

abbrev pub invariant-loop-at : goal.invariant-loop-at
invariant-loop-at l = l.done.items ++ drop l.at l.list ≡ l.fn.done.items ++ drop l.first l.list
