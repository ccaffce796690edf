use Rattle.exact_numbers.specs.Values.{frac_value}
use Rattle.linear_fold.proofs.ConstantLemmas.{best_made, best_varies}
use Rattle.linear_fold.proofs.constants.best.Goals as goal

pub returns-in-Some : goal.returns-in-Some
returns-in-Some c n z = let v = c.in-Some.ensures n z in best_made c.args.least n _ (frac_value c.in-Some.value) v.0 v.1

pub returns-in-None : goal.returns-in-None
returns-in-None c n z = best_varies c.args.least n _ (c.in-None.ensures n z)
