use Rattle.std.proofs.Common.{rules}
use Rattle.row_scaling.proofs.AddLemmas.{column_bounds_put}
use Rattle.row_scaling.proofs.AddLemmas.{all_bounds_put}
use Rattle.row_scaling.proofs.AddLemmas.{bounds_only}
use Rattle.row_scaling.proofs.bounds.add_bounds.Goals as goal

pub loop-j-preserved : goal.loop-j-preserved
loop-j-preserved c = search (rules, column_bounds_put, all_bounds_put, bounds_only)

pub returns-clause-value : goal.returns-clause-value
returns-clause-value c = search (rules, column_bounds_put, all_bounds_put, bounds_only)
