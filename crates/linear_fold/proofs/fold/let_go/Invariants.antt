use Rattle.std.proofs.Common.{◌≡◌, ◌+◌, length, reverse}
use Rattle.linear_fold.specs.InsideFolds.{ArePartsWithin}
use Rattle.linear_fold.specs.InsideOperates.{IsLeft, IsPad}
use Rattle.linear_fold.proofs.fold.let_go.Given as goal

abbrev pub invariant-loop : goal.invariant-loop
invariant-loop l =
    record {
      left : IsLeft l.counter l.fn.stack.items l.stack.items;
      size : length l.stack.items + l.counter ≡ length l.fn.stack.items;
      within : ArePartsWithin l.variables (reverse l.stack.items);
      pad : IsPad l.variables l.pad;
    }
