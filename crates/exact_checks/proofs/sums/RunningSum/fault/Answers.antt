use Rattle.std.proofs.Common.{◌∙◌, sym, ap}
use Rattle.exact_numbers.specs.Values.{dec_value}
use Rattle.exact_checks.specs.Sums.{sum_value}
use Rattle.exact_checks.specs.Terms.{side_value}
use Rattle.exact_checks.proofs.CostLemmas.{fault_of_side, no_fault_of_side, value_there}
use Rattle.exact_checks.proofs.sums.RunningSum.fault.Goals as goal

pub returns-in-Some : goal.returns-in-Some
returns-in-Some c max i needs =
    let v = value_there c.args.self.now c.in_default.not-TooWide in
    no_fault_of_side max i c.args.number (sum_value c.args.self.now) v.0 (dec_value c.in-Some.field-0) v.1 (sym (ap side_value c.in-Some.is) ∙ needs v.0 v.1)

pub returns-in-None : goal.returns-in-None
returns-in-None c max i needs =
    let v = value_there c.args.self.now c.in_default.not-TooWide in
    fault_of_side max i c.args.number (sum_value c.args.self.now) v.0 v.1 (λ z. let yes = c.is_zero.ensures.1 z in cc) (sym (ap side_value c.in-None.is) ∙ needs v.0 v.1)
