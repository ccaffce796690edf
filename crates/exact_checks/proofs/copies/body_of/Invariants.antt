use Rattle.std.proofs.Common.{◌≡◌, ◌++◌}
use Rattle.linear_program.specs.Forms.{form_terms, terms_left}
use Rattle.exact_checks.proofs.copies.body_of.Given as goal

abbrev pub invariant-loop-term : goal.invariant-loop-term
invariant-loop-term l =
    (goal.iterator-loop-term).can_next l.term-iterator
    × (goal.iterator-loop-term).is_finite l.term-iterator
    × (l.items.items ++ terms_left l.term-iterator ≡ form_terms l.form)
