use Rattle.std.proofs.Common.{◌∙◌, ap, arith, get_or}
use Rattle.row_scaling.specs.InsideColumns.{column_in}
use Rattle.row_scaling.proofs.LineLemmas.{bounds_end, variable_bounds_written}
use Rattle.row_scaling.proofs.bound_lines.put_listed_bounds.Goals as goal

pub loop-j-preserved : goal.loop-j-preserved
loop-j-preserved c =
    let bounds = c.program_bounds-bounds in
    variable_bounds_written c.args.scaled.now bounds.ensures.scaled c.loop-j.j c.index-bounds-j.result (column_in c.variables-n.result c.loop-j.j) c.loop-j.out c.put_column_bounds.new.out _
    (omega (arith, bounds.ensures.count)) (c.index-bounds-j.is ∙ ap (λ bs. get_or bs c.loop-j.j c.index-bounds-j.result) bounds.ensures.value)
    (ap (λ n. column_in n c.loop-j.j) c.variables-n.ensures.value) c.loop-j.invariant c.in_ok-put_column_bounds.ensures

pub returns : goal.returns
returns c = bounds_end c.args.scaled.now c.program_bounds-bounds.ensures.scaled c.loop-j.j c.loop-j.out _ (omega (arith, c.program_bounds-bounds.ensures.count)) c.loop-j.invariant
