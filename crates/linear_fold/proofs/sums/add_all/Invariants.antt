use Rattle.std.proofs.Common.{◌≤◌, ◌+◌, ◌-◌, ◌*◌, length, reverse, take}
use Rattle.linear_fold.specs.InsideOperates.{IsLeft, IsPad, IsSound, part_line}
use Rattle.linear_fold.proofs.SumLemmas.{Adding}
use Rattle.linear_fold.proofs.sums.add_all.Given as goal

abbrev pub invariant-loop : goal.invariant-loop
invariant-loop g l =
    record {
      adding : Adding l.variables (part_line l.total) (take (l.count - l.counter) (reverse l.stack.items)) (take l.count (reverse l.fn.stack.items)) (part_line l.fn.total);
      sound : IsSound l.variables l.total;
      left : IsLeft l.counter l.fn.stack.items l.stack.items;
      room : l.count ≤ length l.stack.items + l.counter;
      pad : IsPad l.variables l.pad;
      above : l.fn.steps ≤ l.steps;
      below : l.steps ≤ l.fn.steps + 2 * (l.variables + 1) * l.counter;
    }
