use Rattle.linear_fold.specs.InsideOperates.{part_line}
use Rattle.linear_fold.proofs.SumLemmas.{same_swapped}
use Rattle.linear_fold.proofs.sums.make_ready.Goals as goal

pub returns-then-is_open-clause-same : goal.returns-then-is_open-clause-same
returns-then-is_open-clause-same g c = rw (c.swap.ensures.x_after, c.swap.ensures.y_after) (same_swapped c.args.variables (part_line c.args.total.now) (part_line c.args.part.now))
