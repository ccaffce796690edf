use Rattle.std.proofs.Common.{ap}
use Rattle.exact_numbers.specs.Values.{frac_value}
use Rattle.linear_program.specs.Lines.{constant_line}
use Rattle.nl_model.specs.Faults.{fault_at, too_wide_unless}
use Rattle.linear_fold.proofs.Folding.{constant_lined, same_values}
use Rattle.linear_fold.proofs.fold.number_part.Goals as goal

pub returns-in-Some-clause-part : goal.returns-in-Some-clause-part
returns-in-Some-clause-part c n known = (
  ap (λ b. fault_at c.args.place (too_wide_unless b)) c.in-Some.ensures.0,
  same_values n _ (constant_line (frac_value c.in-Some.constant)) _ (ap constant_line c.in-Some.ensures.1) (constant_lined n _),
)
