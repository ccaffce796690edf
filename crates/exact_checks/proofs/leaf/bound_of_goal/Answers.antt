use Rattle.std.proofs.Common.{◌∙◌, ap, length}
use Rattle.linear_program.specs.Linear.{Form, row_count, value_at}
use Rattle.exact_numbers.specs.Values.{frac_value}
use Rattle.linear_program.specs.Numbers.{spread}
use Rattle.exact_checks.specs.Answers.{bound_answer_of}
use Rattle.exact_checks.specs.Programs.{bounds_in}
use Rattle.exact_checks.specs.Sums.{cost_count, cost_in, sum_at, sum_value}
use Rattle.exact_checks.specs.Terms.{value_found}
use Rattle.exact_checks.proofs.LeafLemmas.{bound_is, by_parts}
use Rattle.exact_checks.proofs.leaf.bound_of_goal.Goals as goal

pub returns-clause-exact : goal.returns-clause-exact
returns-clause-exact c f held goal =
    bound_is c.args.program.now c.args.planes.now f held c.args.maximise (frac_value c.args.constant) c.args.terms.now goal (bounds_in c.args.lo.now c.args.hi.now) c.args.pairs.now
    (cost_in c.begin.new.self) (cost_in c.order.new.self) (cost_count c.order.new.self) (bound_answer_of c.bound-verdict.result)
    c.requires.leaf.pairs (c.in_default.ensures f held goal.sense) c.in_ok-begin.ensures.costs
    (λ j. ap (λ v. sum_value (sum_at v.items j)) c.order.ensures.sums ∙ c.in_ok-take_rows.ensures.costs f held j)
    (ap (λ v. length v.items) c.order.ensures.sums ∙ c.in_ok-take_rows.ensures.count ∙ c.in_ok-begin.ensures.count ∙ c.requires.leaf.count)
    (by_parts f (bounds_in c.args.lo.now c.args.hi.now) (value_at (spread (row_count f) c.args.pairs.now))
    (cost_in c.order.new.self) (cost_count c.order.new.self) c.args.maximise (frac_value c.args.constant)
    (value_found c.rows_total-start.result) (bound_answer_of c.bound-verdict.result)
    goal.sense (ap (λ (g : Form). g.constant) goal.sum) (c.rows_total-start.ensures f held goal.sense) c.bound-verdict.ensures)
