use Rattle.std.proofs.Common.{◌≡◌, ◌+◌, ◌≤◌, ◌^◌, length}
use Rattle.linear_program.specs.Coefs.{AreAscending}
use Rattle.linear_program.specs.Forms.{terms_left}
use Rattle.linear_program.proofs.form.count_of.Given as goal

abbrev pub invariant-loop-term : goal.invariant-loop-term
invariant-loop-term l =
    (goal.iterator-loop-term).can_next l.term-iterator
    × (goal.iterator-loop-term).is_finite l.term-iterator
    × AreAscending l.count (terms_left l.term-iterator)
    × (l.count ≤ 2 ^ 32)
    × (l.count + length (terms_left l.term-iterator) ≡ length (terms_left l.fn.terms))
