use Rattle.exact_numbers.specs.Rational.{zero_ℚ}
use Rattle.certificates.specs.Parts.{maximising}
use Rattle.exact_numbers.specs.Values.{frac_value}
use Rattle.linear_program.specs.Coefs.{coef_in}
use Rattle.exact_checks.proofs.LeafLemmas.{rows_maximised, sum_goal}
use Rattle.exact_checks.proofs.SumLemmas.{if_put}
use Rattle.exact_checks.proofs.leaf.sum_bound.Goals as goal

pub returns-clause-exact : goal.returns-clause-exact
returns-clause-exact c =
    if_put c.bound_of_goal.result c.bound_of_goal.ensures.exact (λ v q f held.
    q (maximising f (record { constant = zero_ℚ; coefficient = coef_in c.args.terms.now }))
    (rows_maximised c.args.program.now c.args.planes.now f
    (record { constant = zero_ℚ; coefficient = coef_in c.args.terms.now }) held)
    (sum_goal f c.args.terms.now (frac_value c.zero.result) c.zero.ensures))
