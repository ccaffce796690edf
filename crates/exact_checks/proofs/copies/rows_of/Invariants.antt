use Rattle.std.proofs.Common.{length}
use Rattle.exact_checks.specs.Built.{AreWithin}
use Rattle.exact_checks.proofs.Copied.{AreRowsSoFar}
use Rattle.exact_checks.proofs.copies.rows_of.Given as goal

abbrev pub invariant-loop-i : goal.invariant-loop-i
invariant-loop-i l = record { so : AreRowsSoFar l.linear.bodies l.linear.sides l.rows.items l.i; within : AreWithin (length l.linear.bounds) l.rows.items }
