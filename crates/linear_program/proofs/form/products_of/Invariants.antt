use Rattle.std.proofs.Common.{◌≡◌, ◌≤◌, ◌+◌, ◌++◌, List, length}
use Rattle.exact_numbers.specs.Values.{frac_value}
use Rattle.linear_program.specs.Coefs.{Term, AreProducts, HasWideProduct}
use Rattle.linear_program.specs.Forms.{terms_left}
use Rattle.linear_program.proofs.form.products_of.Given as goal

abbrev pub invariant-loop-term : goal.invariant-loop-term
invariant-loop-term g l =
    (goal.iterator-loop-term g).can_next l.term-iterator
    × (goal.iterator-loop-term g).is_finite l.term-iterator
    × ((ps : List Term) → AreProducts (frac_value l.k) (terms_left l.term-iterator) ps → AreProducts (frac_value l.k) (terms_left l.fn.terms) (l.products.items ++ ps))
    × (HasWideProduct (frac_value l.k) (terms_left l.term-iterator) → HasWideProduct (frac_value l.k) (terms_left l.fn.terms))
    × (l.steps + length (terms_left l.term-iterator) ≡ l.fn.steps + length (terms_left l.fn.terms))
    × (l.fn.steps ≤ l.steps)
