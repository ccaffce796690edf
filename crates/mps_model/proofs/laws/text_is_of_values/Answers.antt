use Rattle.exact_numbers.specs.Values.{dec_value}
use Rattle.mps_model.proofs.Texts.{text_by_values}
use Rattle.mps_model.proofs.laws.text_is_of_values.Goals as goal

pub returns : goal.returns
returns c = λ text m. text_by_values text dec_value m
