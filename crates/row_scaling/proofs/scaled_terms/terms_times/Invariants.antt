use Rattle.std.proofs.Common.{◌++◌, List, All}
use Rattle.exact_numbers.specs.Values.{frac_value}
use Rattle.linear_program.specs.Forms.{form_terms, terms_left}
use Rattle.row_scaling.specs.Rows.{TermOf}
use Rattle.row_scaling.specs.Fitting.{coefficients_in, NumberFits, AreTermsTimes}
use Rattle.row_scaling.proofs.scaled_terms.terms_times.Given as goal

abbrev pub invariant-loop-term : goal.invariant-loop-term
invariant-loop-term l =
    (goal.iterator-loop-term).can_next l.term-iterator
    × (goal.iterator-loop-term).is_finite l.term-iterator
    × ((us : List TermOf) → AreTermsTimes (frac_value l.factor) (terms_left l.term-iterator) us → AreTermsTimes (frac_value l.factor) (form_terms l.form) (l.terms ++ us))
    × (All (NumberFits (frac_value l.factor)) (coefficients_in (form_terms l.form)) → All (NumberFits (frac_value l.factor)) (coefficients_in (terms_left l.term-iterator)))
