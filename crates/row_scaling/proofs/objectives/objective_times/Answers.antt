use Rattle.std.proofs.lemmas.List.Elements.{All-tail}
use Rattle.exact_numbers.specs.Values.{frac_value}
use Rattle.linear_program.specs.Forms.{form_line, form_terms}
use Rattle.row_scaling.specs.Fitting.{coefficients_in, NumberFits}
use Rattle.row_scaling.proofs.FitLemmas.{fault_map}
use Rattle.row_scaling.proofs.objectives.objective_times.Goals as goal

pub returns-in-Err-clause-wide : goal.returns-in-Err-clause-wide
returns-in-Err-clause-wide c =
    fault_map c.in-Err.stop (λ bad h. bad (All-tail (NumberFits (frac_value c.args.factor))
    (form_line c.args.objective.now).constant (coefficients_in (form_terms c.args.objective.now)) h))
    c.in-Err.ensures.wide
