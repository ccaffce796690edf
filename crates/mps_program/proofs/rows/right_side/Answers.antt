use Rattle.std.proofs.Common.{◌∙◌, ap}
use Rattle.mps_model.specs.Mps.{at_row}
use Rattle.mps_program.proofs.PartLemmas.{right_side}
use Rattle.mps_program.proofs.rows.right_side.Goals as goal

pub returns : goal.returns
returns c = right_side c.args.mps.now c.args.row c.at_row-given.result c.or_zero.result (c.at_row-given.ensures ∙ ap (at_row c.args.row) c.rhs-rhs.ensures.value) c.or_zero.ensures
