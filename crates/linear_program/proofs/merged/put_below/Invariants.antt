use Rattle.std.proofs.Common.{◌≡◌, ◌++◌, drop}
use Rattle.linear_program.specs.Coefs.{AreBelow}
use Rattle.linear_program.proofs.merged.put_below.Given as goal

abbrev pub invariant-loop-at : goal.invariant-loop-at
invariant-loop-at l =
    record {
      same : l.done.items ++ drop l.at l.list ≡ l.fn.done.items ++ drop l.first l.list;
      below : AreBelow l.variable l.done.items;
    }
