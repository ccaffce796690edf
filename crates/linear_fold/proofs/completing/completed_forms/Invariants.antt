use Rattle.std.proofs.Common.{◌≡◌, length, drop}
use Rattle.std.specs.Vec.Iter.{into_iter_items, into_iter_len}
use Rattle.linear_fold.proofs.CompletionLemmas.{AreCompleting}
use Rattle.linear_fold.proofs.completing.completed_forms.Given as goal

abbrev pub invariant-loop-place : goal.invariant-loop-place
invariant-loop-place l =
    AreCompleting l.held l.fn.terms.items l.fn.forms.items l.all.items l.place
    × (into_iter_items l.rest ≡ drop l.place l.fn.terms.items)
    × (into_iter_len l.rest ≡ length (into_iter_items l.rest))
    × (length l.all.items ≡ length l.held)
