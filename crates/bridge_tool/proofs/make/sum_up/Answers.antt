use Rattle.std.proofs.Common.{◌∙◌, ap, length}
use Rattle.exact_numbers.specs.Values.{value_text}
use Rattle.mps_model.specs.Text.{mps_text_by}
use Rattle.bridge_tool.proofs.Making.{of_program}
use Rattle.bridge_tool.proofs.make.sum_up.Goals as goal

pub returns : goal.returns
returns c = of_program _ _ _ _ _ _ _ _ c.in_ok-mps.ensures c.coefficient_count-terms.ensures
    (c.in_ok-text.ensures.text ∙ ap (mps_text_by value_text) c.in_ok-mps.ensures) (ap length c.as_slice.ensures.value)
    c.in_ok-line.ensures
