use Rattle.std.proofs.Common.{◌≡◌, ◌≤◌, ◌+◌, length}
use Rattle.exact_numbers.specs.Values.{frac_value}
use Rattle.linear_program.specs.Coefs.{AreBelow}
use Rattle.linear_program.specs.Forms.{adds_fit, place_count, sum_line, terms_left, with_scaled}
use Rattle.linear_program.proofs.sum.Sum.add_terms.Given as goal

abbrev pub invariant-loop-term : goal.invariant-loop-term
invariant-loop-term g l =
    (goal.iterator-loop-term g).can_next l.term-iterator
    × (goal.iterator-loop-term g).is_finite l.term-iterator
    × (adds_fit (sum_line l.self) (frac_value l.k) (terms_left l.term-iterator) ≡ adds_fit (sum_line l.fn.self) (frac_value l.k) (terms_left l.fn.terms))
    × (with_scaled (sum_line l.self) (frac_value l.k) (terms_left l.term-iterator) ≡ with_scaled (sum_line l.fn.self) (frac_value l.k) (terms_left l.fn.terms))
    × AreBelow (place_count l.self) (terms_left l.term-iterator)
    × (place_count l.self ≡ place_count l.fn.self)
    × (l.steps + length (terms_left l.term-iterator) ≡ l.fn.steps + length (terms_left l.fn.terms))
    × (l.fn.steps ≤ l.steps)
