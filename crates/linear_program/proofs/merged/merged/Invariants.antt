use Rattle.std.proofs.Common.{◌≡◌, ◌+◌, ◌++◌, ◌≤◌, ℕ, drop, length}
use Rattle.exact_numbers.specs.Values.{frac_value}
use Rattle.exact_numbers.specs.Rational.{ℚ}
use Rattle.linear_program.specs.Coefs.{AreAscending, AreBelow}
use Rattle.linear_program.specs.Forms.{adds_fit, parts_line, terms_left, with_scaled}
use Rattle.linear_program.proofs.merged.merged.Given as goal

abbrev pub invariant-loop-term : goal.invariant-loop-term
invariant-loop-term g l =
    (goal.iterator-loop-term g).can_next l.term-iterator
    × (goal.iterator-loop-term g).is_finite l.term-iterator
    × ((q : ℚ) → adds_fit (parts_line q (l.done.items ++ drop l.at l.list)) (frac_value l.k) (terms_left l.term-iterator) ≡ adds_fit (parts_line q l.list) (frac_value l.k) (terms_left l.fn.terms))
    × ((q : ℚ) → with_scaled (parts_line q (l.done.items ++ drop l.at l.list)) (frac_value l.k)
    (terms_left l.term-iterator) ≡ with_scaled (parts_line q l.list) (frac_value l.k) (terms_left l.fn.terms))
    × AreAscending 0 (l.done.items ++ drop l.at l.list)
    × (l.at ≤ length l.list)
    × ((bound : ℕ) × AreBelow bound l.done.items × AreAscending bound (terms_left l.term-iterator))
    × (l.steps + length (terms_left l.term-iterator) ≡ l.fn.steps + length (terms_left l.fn.terms))
    × (l.fn.steps ≤ l.steps)
