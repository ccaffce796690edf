use Rattle.exact_numbers.specs.Values.{frac_value}
use Rattle.exact_checks.specs.Sums.{short_value}
use Rattle.exact_checks.proofs.FormPoints.{OnForm}
use Rattle.exact_checks.proofs.form_at.short_value_of.Given as goal

abbrev pub invariant-loop-place : goal.invariant-loop-place
invariant-loop-place l = OnForm (frac_value l.fn.constant) l.terms l.x l.place (short_value l.sum)
