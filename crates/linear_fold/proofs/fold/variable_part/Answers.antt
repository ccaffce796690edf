use Rattle.std.proofs.Common.{ap, refl}
use Rattle.linear_fold.specs.InsideOperates.{multiple_line}
use Rattle.linear_fold.proofs.Folding.{multiple_within, same_values, variable_lined}
use Rattle.linear_fold.proofs.fold.variable_part.Goals as goal

pub returns-clause-part : goal.returns-clause-part
returns-clause-part c n i known below = (refl, same_values n _ _ _ (ap (multiple_line c.args.index) c.one.ensures) (variable_lined n c.args.index below))

pub returns-clause-within : goal.returns-clause-within
returns-clause-within c n below = multiple_within n c.args.index c.one.result below
