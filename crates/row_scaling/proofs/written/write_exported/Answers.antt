use Rattle.std.proofs.Common.{◌∙◌, ap}
use Rattle.exact_numbers.specs.Values.{value_text}
use Rattle.mps_model.specs.Text.{mps_text_by}
use Rattle.row_scaling.proofs.written.write_exported.Goals as goal

pub returns : goal.returns
returns c = c.in_ok-out.ensures.text ∙ ap (mps_text_by value_text) c.in_ok-mps.ensures
