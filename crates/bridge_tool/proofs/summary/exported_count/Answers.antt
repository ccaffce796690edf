use Rattle.std.proofs.Common.{◌∙◌, ap, sym}
use Rattle.std.specs.List.{count_by}
use Rattle.linear_program.specs.Intervals.{is_sided}
use Rattle.bridge_tool.proofs.Making.{sides_count}
use Rattle.bridge_tool.proofs.summary.exported_count.Goals as goal

pub returns : goal.returns
returns c = c.count_sides.ensures ∙ ap (count_by is_sided) c.sides.ensures ∙ sym (sides_count c.args.linear.now c.bodies.ensures.folded.sides)
