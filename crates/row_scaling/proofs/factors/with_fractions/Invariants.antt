use Rattle.std.proofs.Common.{◌≡◌, pos, unsigned_abs, ◌<ℤ◌}
use Rattle.linear_program.specs.Forms.{form_terms, terms_left}
use Rattle.row_scaling.proofs.NumberLemmas.{running}
use Rattle.row_scaling.proofs.factors.with_fractions.Given as goal

abbrev pub invariant-loop-term : goal.invariant-loop-term
invariant-loop-term l =
    (goal.iterator-loop-term).can_next l.term-iterator
    × (goal.iterator-loop-term).is_finite l.term-iterator
    × (running (unsigned_abs l.factor) (terms_left l.term-iterator) ≡ running (unsigned_abs l.start) (form_terms l.form))
    × (pos 0 <ℤ l.factor)
