use Rattle.std.proofs.Common.{◌≡◌, length, drop}
use Rattle.std.specs.Vec.Iter.{into_iter_items, into_iter_len}
use Rattle.row_scaling.proofs.AddLemmas.{AreColumnsLeft}
use Rattle.row_scaling.proofs.program_columns.add_columns.Given as goal

abbrev pub invariant-loop-j : goal.invariant-loop-j
invariant-loop-j l =
    AreColumnsLeft (λ c. c.items) l.scaled l.fn.columns.items l.initial.builder l.builder l.j
    × (into_iter_items l.rest ≡ drop l.j l.fn.columns.items)
    × (into_iter_len l.rest ≡ length (into_iter_items l.rest))
