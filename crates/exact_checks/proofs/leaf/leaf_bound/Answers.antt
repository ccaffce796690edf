use Rattle.std.proofs.Common.{◌≡◌, false, subst, sym}
use Rattle.linear_program.specs.Linear.{row_count}
use Rattle.certificates.specs.Verdict.{dual_bound}
use Rattle.exact_numbers.specs.Values.{frac_value}
use Rattle.linear_program.specs.Numbers.{spread}
use Rattle.exact_checks.specs.Answers.{bound_answer_of}
use Rattle.exact_checks.specs.Leaves.{IsGoal}
use Rattle.exact_checks.specs.Programs.{asked, bounds_in}
use Rattle.exact_checks.specs.declared.verdict.Goal.TheVariants.{Zero}
use Rattle.exact_checks.proofs.LeafLemmas.{rows_asked, zero_goal}
use Rattle.exact_checks.proofs.SumLemmas.{if_put}
use Rattle.exact_checks.proofs.leaf.leaf_bound.Goals as goal

pub returns-in-Zero-clause-exact : goal.returns-in-Zero-clause-exact
returns-in-Zero-clause-exact c =
    if_put c.bound_of_goal-in-Zero.result c.bound_of_goal-in-Zero.ensures.exact (λ v q f over.
    subst (λ g. bound_answer_of v ≡ dual_bound (asked g f) (bounds_in c.args.lo.now c.args.hi.now) (spread (row_count f) c.args.pairs.now)) (sym c.in-Zero.is)
    (q (asked Zero f) (rows_asked c.args.program.now c.args.planes.now f Zero over)
    (subst (λ ts. IsGoal false (frac_value c.zero.result) ts (asked Zero f)) (sym c.new-none.ensures)
    (zero_goal f (frac_value c.zero.result) c.zero.ensures))))
