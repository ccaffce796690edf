use Rattle.std.proofs.Common.{rules}
use Rattle.row_scaling.proofs.LineLemmas.{all_bounds_written}
use Rattle.row_scaling.proofs.LineLemmas.{no_bounds_written}
use Rattle.row_scaling.proofs.bound_lines.put_bounds.Goals as goal

pub returns : goal.returns
returns c = search (rules, all_bounds_written, no_bounds_written)

pub returns-then-is_empty : goal.returns-then-is_empty
returns-then-is_empty c = search (rules, all_bounds_written, no_bounds_written)
