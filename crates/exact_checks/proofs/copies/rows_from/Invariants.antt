use Rattle.std.proofs.Common.{◌≡◌, drop, length}
use Rattle.exact_checks.specs.Built.{AreWithin}
use Rattle.exact_checks.proofs.Copied.{AreRowsSoFar}
use Rattle.exact_checks.proofs.copies.rows_from.Given as goal

abbrev pub invariant-loop-form : goal.invariant-loop-form
invariant-loop-form l =
    record {
      so : AreRowsSoFar l.fn.bodies.items l.sides l.rows.items (length l.rows.items);
      within : AreWithin (length l._bounds) l.rows.items;
      left : l.form-iterator.rest.items ≡ drop (length l.rows.items) l.fn.bodies.items;
    }
