use Rattle.std.proofs.Common.{◌∙◌, ap}
use Rattle.exact_numbers.proofs.Bridge.{frac_fits_lem}
use Rattle.exact_numbers.specs.Values.{frac_value}
use Rattle.exact_checks.specs.Sums.{less_part, sum_value}
use Rattle.exact_checks.proofs.CostLemmas.{part_added, part_missing}
use Rattle.exact_checks.proofs.sums.RunningSum.add_part.Goals as goal

pub lessen-requires : goal.lessen-requires
lessen-requires c = frac_fits_lem c.in-Some.factor

pub returns-in-Some : goal.returns-in-Some
returns-in-Some c max i needed =
    c.lessen.ensures
    ∙ ap (λ w. less_part w (frac_value c.in-Some.factor) (sum_value c.args.self.now)) c.negated.ensures
    ∙ part_added max i (sum_value c.args.cost.now) (sum_value c.args.self.now) c.args.side.now (frac_value c.in-Some.factor) c.requires needed c.in-Some.ensures

pub returns-in-None : goal.returns-in-None
returns-in-None c max i needed = part_missing max i (sum_value c.args.cost.now) (sum_value c.args.self.now) c.args.side.now c.requires needed c.in-None.ensures
