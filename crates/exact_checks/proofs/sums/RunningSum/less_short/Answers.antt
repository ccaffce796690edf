use Rattle.exact_checks.proofs.CostLemmas.{less_found}
use Rattle.exact_checks.specs.Sums.{sum_value}
use Rattle.linear_program.specs.Numbers.{number_value}
use Rattle.exact_checks.proofs.sums.RunningSum.less_short.Goals as goal

pub returns : goal.returns
returns c = less_found c.less.result c.in_ok-start.start c.in_ok-weight.weight c.in_ok-factor.factor c.in_ok-part.part
    (sum_value c.args.self.now) (sum_value c.args.weight.now) (number_value c.args.factor.now) c.in_ok-start.ensures
    c.in_ok-weight.ensures c.in_ok-factor.ensures c.in_ok-part.ensures c.less.ensures
