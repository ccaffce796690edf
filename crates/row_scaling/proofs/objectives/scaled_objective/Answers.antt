use Rattle.std.proofs.Common.{subst, All}
use Rattle.exact_numbers.specs.Values.{frac_value}
use Rattle.text_base.specs.Stopped.{IfFault}
use Rattle.row_scaling.specs.Factored.{numbers_of}
use Rattle.row_scaling.specs.Fitting.{NumberFits}
use Rattle.row_scaling.proofs.LinearLemmas.{both_wide}
use Rattle.row_scaling.proofs.objectives.scaled_objective.Goals as goal

pub returns-in-Err-Fault-clause-wide : goal.returns-in-Err-Fault-clause-wide
returns-in-Err-Fault-clause-wide c =
    let plain = subst (λ s. IfFault s (λ w. ¬ All (NumberFits (frac_value c.one.result)) (numbers_of c.args.objective.now))) c.in-Err-Fault.field-0-is c.in-Err-Fault.ensures.wide in
    both_wide c.args.objective.now c.tied_objective.result (subst (λ q. ¬ All (NumberFits q) (numbers_of c.args.objective.now)) c.one.ensures plain) c.tied_objective.ensures.wide
